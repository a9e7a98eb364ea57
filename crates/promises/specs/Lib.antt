pub mod CircuitPromise
pub mod SourcePromise
pub mod DesignPromise
pub mod Circuits
pub mod Compilable
pub mod EndedMachines
