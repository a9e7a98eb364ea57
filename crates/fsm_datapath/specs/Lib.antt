pub mod Steps
pub mod Outs
pub mod Outputs
pub mod Making
pub mod CircuitParts
pub mod LoggedWrites
pub mod AssembledCircuits
