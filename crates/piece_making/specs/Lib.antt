pub mod Making
pub mod Stocks
pub mod Calls
pub mod Acting
pub mod Saving
pub mod Leaving
pub mod Assigning
pub mod Objects
