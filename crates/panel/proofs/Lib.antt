pub mod Capped
pub mod Feeds
pub mod Letters
pub mod Motions
pub mod Short
pub mod Soundness
