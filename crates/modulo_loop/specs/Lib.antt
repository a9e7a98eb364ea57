pub mod Lowest
pub mod Rules
pub mod Searches
pub mod Trips
pub mod ForwardRules
