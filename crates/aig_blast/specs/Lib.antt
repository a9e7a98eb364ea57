pub mod Weight
pub mod Encoding
pub mod Literals
pub mod Finished
pub mod Ports
