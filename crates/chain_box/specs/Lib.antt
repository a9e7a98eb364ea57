pub mod StageBoxes
pub mod Chains
pub mod Laws
pub mod Agreement
pub mod Examples
pub mod StageEmbedding
