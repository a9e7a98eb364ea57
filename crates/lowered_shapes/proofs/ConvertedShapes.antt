pub mod Lowered
pub mod Left
