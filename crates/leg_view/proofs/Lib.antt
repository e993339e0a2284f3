pub mod Motions
pub mod Pictures
pub mod Scenes
pub mod Tellings
