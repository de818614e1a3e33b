pub mod Buffers
pub mod Checks
pub mod Texts
pub mod Worked
