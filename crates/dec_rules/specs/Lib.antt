pub mod Motions
pub mod Pens
pub mod Reading
pub mod Rules
pub mod Directions
