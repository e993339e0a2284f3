pub mod Drawing
pub mod Plan
pub mod Drawn
pub mod Sofar
