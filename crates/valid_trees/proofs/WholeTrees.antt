pub mod Adding
pub mod Numbered
pub mod Joining
pub mod Converted
pub mod Expressions
pub mod Lowered
pub mod Program
