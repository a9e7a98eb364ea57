pub mod Functions
pub mod Counting
pub mod Parameters
