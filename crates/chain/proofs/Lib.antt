pub mod PathLaws
pub mod BestLaws
pub mod Settled
pub mod Spreads
pub mod Arounds
pub mod Layers
pub mod Chains
