pub mod Fragments
pub mod Division
pub mod Growing
pub mod Products
