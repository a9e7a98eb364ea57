pub mod DeclarationsLemmas
pub mod LabelsLemmas
pub mod ConflictsLemmas
