pub mod Serving
pub mod Copies
pub mod Blocks
pub mod Loops
pub mod Nodes
pub mod Whole
