pub mod Enough
pub mod Pours
pub mod Walks
pub mod Planned
pub mod Tried
