pub mod Legs
pub mod Plans
pub mod Pours
pub mod Takes
pub mod Walks
