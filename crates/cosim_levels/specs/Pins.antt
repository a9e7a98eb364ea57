pub mod Addresses
pub mod FunctionPins
pub mod Host
pub mod ModuleRun
