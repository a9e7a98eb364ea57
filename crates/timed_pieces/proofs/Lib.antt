pub mod FlatRuns
pub mod ScheduleRuns
pub mod Whole
pub mod SoundPrograms
pub mod TimedValidity
pub mod StartedWords
pub mod FormulaCycles
pub mod FusedPrograms
