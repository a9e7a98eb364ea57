pub mod Composing
pub mod Whole
