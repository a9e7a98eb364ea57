pub mod Lists
pub mod Distinct
pub mod Signals
pub mod Driven
pub mod Whole
