pub mod Finders
pub mod Held
pub mod Plain
