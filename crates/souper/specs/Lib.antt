pub mod Check
pub mod Counted
pub mod Rows
pub mod Soundness
pub mod Translation
pub mod WalkRows
pub mod Widths
pub mod Words
