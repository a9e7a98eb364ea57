pub mod Binding
pub mod Times
pub mod Ranks
pub mod Copies
