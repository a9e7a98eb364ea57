pub mod Addressing
pub mod Filled
pub mod Banks
