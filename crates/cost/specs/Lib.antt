pub mod Bytes
pub mod Costs
pub mod Line
