pub mod Asks
pub mod Cells
pub mod Cut
pub mod Digits
pub mod Joins
pub mod Limit
