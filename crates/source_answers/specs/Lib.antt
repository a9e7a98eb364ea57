pub mod SourceRuns
pub mod EndedLoops
pub mod NodePoints
pub mod Laws
pub mod SourceCycles
pub mod CompiledAnswers
pub mod SourceDesigns
