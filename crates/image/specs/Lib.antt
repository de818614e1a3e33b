pub mod Graph
pub mod Held
pub mod Verdict
pub mod Theorems
