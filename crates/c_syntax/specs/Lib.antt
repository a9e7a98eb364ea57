pub mod Sorts
pub mod Steps
pub mod Notes
pub mod Faults
