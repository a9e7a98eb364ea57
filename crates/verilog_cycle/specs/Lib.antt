pub mod Simulation
pub mod Inside
pub mod Program
pub mod Running
pub mod Examples
