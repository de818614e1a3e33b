pub mod AliasLoops
pub mod Attached
pub mod Feed
pub mod Loops
pub mod Marks
pub mod Theorems
