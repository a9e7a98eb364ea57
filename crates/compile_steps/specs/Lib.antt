pub mod Resets
pub mod Reports
pub mod Flat
pub mod Runs
pub mod LongRuns
pub mod BegunPrograms
