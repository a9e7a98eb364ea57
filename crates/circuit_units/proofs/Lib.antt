pub mod MemoriesLemmas
pub mod UnitsLemmas
pub mod DemandsLemmas
