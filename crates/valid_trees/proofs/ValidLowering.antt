pub mod Types
pub mod Widths
pub mod Adding
pub mod Operators
pub mod Expressions
pub mod Blocks
pub mod Copies
pub mod Lowered
