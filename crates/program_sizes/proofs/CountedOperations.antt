pub mod Conversions
pub mod Expressions
pub mod Blocks
pub mod Copies
pub mod Trees
pub mod Weights
