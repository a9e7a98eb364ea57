pub mod ConvertRuns
pub mod LowerRuns
