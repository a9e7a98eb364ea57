pub mod Places
pub mod Beginning
pub mod Nodes
pub mod Whole
