pub mod Scenes
pub mod Table
pub mod Established
