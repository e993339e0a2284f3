pub mod Motions
pub mod Rules
pub mod Laws
pub mod Keeps
pub mod Moves
pub mod Marks
pub mod Follows
