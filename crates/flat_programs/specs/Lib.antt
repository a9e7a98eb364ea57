pub mod There
pub mod Laws
pub mod Memory
pub mod Machine
