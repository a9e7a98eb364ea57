pub mod Units
pub mod Linking
pub mod Places
pub mod Bounds
pub mod Faults
pub mod Laws
pub mod Queues
