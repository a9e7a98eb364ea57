pub mod Offsets
pub mod Meetings
pub mod Dependences
pub mod Sizes
pub mod ForwardBodies
