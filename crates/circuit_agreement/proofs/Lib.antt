mod MemoryPorts
pub mod Nodes
pub mod LoopGates
pub mod NodeEnds
pub mod HeldResults
pub mod CircuitStores
pub mod UnitResults
pub mod ApartStores
pub mod Relating
pub mod Idle
pub mod Entering
pub mod Stepping
pub mod Widths
pub mod Beginning
pub mod Running
pub mod Agreeing
