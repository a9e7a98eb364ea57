pub mod NamedWires
pub mod Arriving
pub mod WayBack
pub mod Going
pub mod Single
pub mod Examples
