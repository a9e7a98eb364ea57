pub mod Cycles
pub mod Phases
pub mod Blocks
pub mod Loops
pub mod Programs
pub mod Circuits
