pub mod Tables
pub mod Emitted
pub mod Views
pub mod Steps
pub mod Suspensions
