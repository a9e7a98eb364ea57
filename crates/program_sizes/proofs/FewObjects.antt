pub mod Tokens
pub mod Declared
pub mod Programs
