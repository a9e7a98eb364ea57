pub mod Views
pub mod Settled
pub mod Boxes
