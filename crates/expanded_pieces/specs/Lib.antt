pub mod Jumps
pub mod Lengths
pub mod Beginning
pub mod Laws
pub mod BegunPieces
pub mod ApartPoints
pub mod BlockPoints
pub mod AddressedArrays
