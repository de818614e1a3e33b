pub mod Checked
pub mod Clean
pub mod Indexing
pub mod Lookups
pub mod Order
pub mod Passed
