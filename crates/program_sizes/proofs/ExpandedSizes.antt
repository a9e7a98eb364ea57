pub mod Accounts
pub mod Parts
pub mod Expressions
pub mod Statements
pub mod Calls
pub mod Whole
