pub mod Banks
pub mod Slots
