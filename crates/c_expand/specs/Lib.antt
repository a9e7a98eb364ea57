pub mod Expressions
pub mod Statements
pub mod Expansion
pub mod Callees
pub mod Chains
pub mod Loops
pub mod Outlines
pub mod InPlace
