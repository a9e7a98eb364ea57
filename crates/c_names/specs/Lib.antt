pub mod Declarations
pub mod Labels
pub mod Conflicts
