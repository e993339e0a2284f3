pub mod Costs
pub mod Goal
pub mod Report
pub mod Requests
