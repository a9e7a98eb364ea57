pub mod Conflicting
pub mod Knowing
