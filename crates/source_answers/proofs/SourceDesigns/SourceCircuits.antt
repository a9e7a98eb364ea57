pub mod Fitting
pub mod Replaced
pub mod Objects
pub mod Inputs
pub mod Left
pub mod Starts
pub mod Whole
