pub mod State
pub mod Showing
pub mod Calls
pub mod Accepting
