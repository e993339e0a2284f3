pub mod Arguments
pub mod Input
pub mod Report
pub mod Requests
