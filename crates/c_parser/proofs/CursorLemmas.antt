pub mod Exits
pub mod Readings
pub mod WordLists
pub mod TypeWords
