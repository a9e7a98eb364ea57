pub mod FileLists
pub mod OutsideLemmas
pub mod SamePoints
