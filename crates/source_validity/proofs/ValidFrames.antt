pub mod Variables
pub mod Memories
pub mod Whole
