pub mod Buffer
pub mod Checks
pub mod Text
pub mod Worked
