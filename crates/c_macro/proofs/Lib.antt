pub mod TableLemmas
pub mod SameTokens
pub mod Lines
pub mod Expanding
pub mod Suspending
pub mod Taking
