pub mod Flows
pub mod ClockRuns
pub mod WellTimed
