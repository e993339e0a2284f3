pub mod Glass
pub mod Graph
pub mod Leg
pub mod Sane
pub mod Scene
pub mod Seen
pub mod Sequence
