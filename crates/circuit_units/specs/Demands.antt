pub mod Computed
pub mod Placing
pub mod Collected
