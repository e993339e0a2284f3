pub mod Held
pub mod Drawing
