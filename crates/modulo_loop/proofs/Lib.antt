pub mod Exits
pub mod ForwardRules
pub mod Gaps
pub mod Growing
pub mod LoopRules
pub mod Trips
