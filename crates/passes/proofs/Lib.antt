pub mod Equalities
pub mod Growing
pub mod NumberRuns
pub mod DistinctOperations
