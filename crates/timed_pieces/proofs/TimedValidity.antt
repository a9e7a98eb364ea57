pub mod Lists
pub mod Frames
pub mod Operands
pub mod Operations
pub mod Bodies
pub mod Nodes
pub mod Whole
