pub mod Adding
pub mod Expressions
pub mod Blocks
pub mod Trees
pub mod Fitting
