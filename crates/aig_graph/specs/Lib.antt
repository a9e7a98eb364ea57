pub mod Graphs
pub mod Making
pub mod Words
