pub mod Readings
pub mod Stops
pub mod Keywords
pub mod Types
pub mod Tokens
