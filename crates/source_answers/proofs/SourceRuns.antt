pub mod FinePieces
pub mod SourceTypes
pub mod ElaboratedSubscripts
pub mod Whole
