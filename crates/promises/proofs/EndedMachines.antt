pub mod Spent
pub mod Cycles
pub mod Times
pub mod Contents
pub mod Starts
pub mod Whole
