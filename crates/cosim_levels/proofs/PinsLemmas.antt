pub mod Waits
pub mod HostRows
pub mod AddressWords
pub mod Accesses
pub mod PinCounts
