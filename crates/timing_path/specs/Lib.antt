pub mod Paths
pub mod Examples
pub mod Laws
pub mod Arrivals
