pub mod Points
pub mod Costs
pub mod Initial
pub mod Resources
pub mod Timing
pub mod ForwardNodes
