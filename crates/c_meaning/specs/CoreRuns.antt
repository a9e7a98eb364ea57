pub mod Kinds
pub mod Cells
pub mod Expressions
pub mod Statements
pub mod Runs
