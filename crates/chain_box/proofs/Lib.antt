pub mod Flow
pub mod Running
pub mod Composing
pub mod Meaning
pub mod Embedding
pub mod Assembling
pub mod Exits
pub mod Pins
