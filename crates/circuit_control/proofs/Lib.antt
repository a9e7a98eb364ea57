pub mod Gathered
pub mod Wanted
pub mod Telling
pub mod Numbered
pub mod Within
pub mod Pieces
pub mod SavingsLemmas
pub mod Driving
