pub mod ValidNumbering
pub mod ValidConversion
pub mod ValidLayout
pub mod ValidLowering
pub mod WholeTrees
