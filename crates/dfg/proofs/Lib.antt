pub mod Decoding
pub mod Marking
pub mod Rows
