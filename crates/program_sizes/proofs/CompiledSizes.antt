pub mod Converted
pub mod Laid
pub mod Whole
