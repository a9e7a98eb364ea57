pub mod Places
pub mod Starting
pub mod Ending
pub mod FirstWords
pub mod FirstWidths
