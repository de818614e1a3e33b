pub mod Faults
pub mod Fields
pub mod Kinds
pub mod Order
pub mod RowsOf
