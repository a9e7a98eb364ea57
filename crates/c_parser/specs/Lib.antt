pub mod Cursor
pub mod Expressions
pub mod Chains
pub mod Objects
pub mod Statements
pub mod Functions
