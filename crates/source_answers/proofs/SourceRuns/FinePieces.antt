pub mod Dealing
pub mod Whole
pub mod Typing
pub mod Sources
