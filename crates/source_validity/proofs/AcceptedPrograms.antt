pub mod Whole
pub mod Flat
pub mod Sizes
