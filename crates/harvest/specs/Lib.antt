pub mod Candidates
pub mod Counting
pub mod Placed
pub mod Roots
pub mod Translated
pub mod Written
pub mod Harvest
