pub mod Wanted
pub mod Bank
pub mod Counting
pub mod Numbers
pub mod Contexts
pub mod Programs
pub mod Elements
pub mod Levels
