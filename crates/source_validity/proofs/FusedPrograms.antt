pub mod Near
pub mod Whole
