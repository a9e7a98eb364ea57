pub mod Meanings
pub mod Whole
