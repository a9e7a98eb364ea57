pub mod Operands
pub mod Operations
pub mod Bodies
pub mod Places
pub mod Laid
pub mod Whole
