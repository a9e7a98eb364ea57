pub mod Bodies
pub mod LaidOut
pub mod Whole
pub mod Machines
