pub mod Each
