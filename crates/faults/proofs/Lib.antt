pub mod Good
pub mod Rows
pub mod Unique
