pub mod Times
pub mod Turns
pub mod Known
pub mod Cycles
pub mod Loops
pub mod Uses
pub mod Blocks
pub mod Controller
