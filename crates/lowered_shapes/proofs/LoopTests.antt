pub mod Numbers
pub mod Heights
pub mod Steps
pub mod Conversions
pub mod Guards
pub mod Expressions
pub mod Tests
