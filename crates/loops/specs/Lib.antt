pub mod Digraph
pub mod Meeting
pub mod Ranks
