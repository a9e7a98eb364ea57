mod Examples
pub mod Chaining
pub mod Choosing
pub mod Operating
