pub mod Elements
pub mod Examples
pub mod Fixpoint
pub mod Members
pub mod Words
