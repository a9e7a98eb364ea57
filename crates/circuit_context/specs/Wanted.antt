pub mod Roles
pub mod Entries
pub mod Logs
pub mod Driving
