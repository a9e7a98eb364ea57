pub mod Same
pub mod Joining
pub mod Grouping
pub mod Wanted
