pub mod BehindOriginals
pub mod BehindPins
pub mod MorePins
pub mod RedefinedNumbers
