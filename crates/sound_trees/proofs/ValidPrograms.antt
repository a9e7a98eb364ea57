pub mod Operands
pub mod Operations
pub mod Nodes
pub mod Whole
