pub mod Paying
pub mod Parts
pub mod Expressions
pub mod Statements
pub mod Homes
pub mod Calls
pub mod Whole
