pub mod Bounds
pub mod Scripts
