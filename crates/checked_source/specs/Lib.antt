pub mod Sources
pub mod SourceFaults
