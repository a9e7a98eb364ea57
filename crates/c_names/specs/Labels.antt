pub mod Written
pub mod Noted
