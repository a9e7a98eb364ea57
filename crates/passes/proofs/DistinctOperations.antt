pub mod Alike
pub mod Finding
pub mod Marking
pub mod Steps
pub mod Blocks
pub mod Trees
