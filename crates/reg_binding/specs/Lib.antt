pub mod Liveness
pub mod Sets
pub mod Assigned
pub mod Lives
pub mod Pools
pub mod Sharing
pub mod SmallTimes
