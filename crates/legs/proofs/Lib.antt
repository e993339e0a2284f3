pub mod Order
pub mod Ends
pub mod Unique
pub mod Few
pub mod Panels
pub mod Short
pub mod Sends
pub mod Sequences
