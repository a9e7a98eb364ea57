pub mod OneCircuit
pub mod Whole
pub mod Found
