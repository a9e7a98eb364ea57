pub mod Naming
pub mod Adding
