pub mod CircuitPromise
pub mod SourcePromise
pub mod DesignPromise
pub mod Compilable
pub mod EndedMachines
