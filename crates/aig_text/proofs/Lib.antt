pub mod Numerals
pub mod Reading
pub mod Atoms
pub mod NumberedRows
pub mod Graphs
pub mod Tails
pub mod Wholes
pub mod Prints
