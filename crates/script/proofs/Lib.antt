pub mod Pieces
pub mod Readings
pub mod ReadBack
