pub mod Paths
pub mod Layers
