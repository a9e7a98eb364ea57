pub mod Points
pub mod Stages
pub mod Agreement
pub mod Asking
pub mod Whole
