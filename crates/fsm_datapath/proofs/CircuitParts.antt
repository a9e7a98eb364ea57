pub mod Naming
pub mod Memories
pub mod Absent
pub mod Edges
pub mod Whole
