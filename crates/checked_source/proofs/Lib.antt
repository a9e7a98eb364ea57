pub mod Outcomes
mod Lengths
pub mod LeastOnce
pub mod BodyOnce
pub mod Faults
pub mod Once
