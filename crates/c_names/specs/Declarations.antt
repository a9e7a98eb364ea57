pub mod Views
pub mod Senses
pub mod Entries
pub mod Layers
pub mod Written
pub mod Extended
