pub mod Cell
pub mod Facts
pub mod Limits
pub mod Place
pub mod Steps
pub mod Surface
