pub mod Frames
pub mod Names
pub mod Operations
pub mod Laws
pub mod ValidNodes
