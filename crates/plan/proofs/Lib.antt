pub mod Cells
pub mod Drawn
pub mod Lengths
pub mod Parts
pub mod Same
pub mod Taken
pub mod Unique
pub mod Blanks
