pub mod Known
pub mod RowAnswer
pub mod Shown
pub mod Theorems
pub mod ValueAnswer
