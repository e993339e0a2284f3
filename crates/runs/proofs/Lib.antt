pub mod Bounds
pub mod Chains
pub mod Exists
