pub mod Keeping
pub mod Expressions
pub mod Statements
pub mod Calls
pub mod Parts
pub mod Starting
pub mod Ending
