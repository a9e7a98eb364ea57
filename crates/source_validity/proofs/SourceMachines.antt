pub mod ForwardPrograms
pub mod SmallTimes
pub mod WholePrograms
pub mod Named
pub mod Whole
