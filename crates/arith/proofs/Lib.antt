pub mod Zeros
pub mod Divisions
pub mod Masks
pub mod Reverses
pub mod Saturation
pub mod Signs
