mod OtherKinds
mod Lists
pub mod ForwardEdges
