pub mod Gathered
pub mod Spans
pub mod Savings
pub mod Drives
