pub mod Whole
pub mod Names
