pub mod Memories
pub mod Units
pub mod Demands
