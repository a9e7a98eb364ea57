pub mod Declarations
pub mod Programs
