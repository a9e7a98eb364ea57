pub mod Constant
pub mod Runs
pub mod Signs
pub mod Views
