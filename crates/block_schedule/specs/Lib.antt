pub mod Constraints
pub mod Schedules
