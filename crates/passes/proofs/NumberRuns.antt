pub mod Trees
pub mod Lists
pub mod Operands
pub mod Meanings
pub mod Finding
pub mod Steps
pub mod Ops
pub mod Blocks
