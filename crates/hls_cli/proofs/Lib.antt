pub mod OneLine
pub mod Comparable
pub mod ModuleOutcomes
pub mod RunEnds
pub mod WrittenFiles
