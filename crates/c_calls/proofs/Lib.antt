pub mod Calling
pub mod Rounds
