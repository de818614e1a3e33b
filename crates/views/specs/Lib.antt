pub mod Checks
pub mod Originals
pub mod PinnedLaws
pub mod Pins
pub mod Redefined
pub mod RedefinedLaws
pub mod ResolvedLaws
pub mod Theorems
