pub mod Replaced
pub mod Types
pub mod Whole
