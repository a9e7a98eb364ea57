pub mod Fitting
pub mod Driven
pub mod Laws
