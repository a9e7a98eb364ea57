pub mod Joining
pub mod AddressWords
pub mod Rising
