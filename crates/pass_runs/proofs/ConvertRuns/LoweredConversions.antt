pub mod Plain
pub mod Forks
pub mod Adding
pub mod Expressions
pub mod Blocks
pub mod Points
pub mod Whole
