pub mod Arrivals
pub mod Fits
pub mod Pictures
pub mod Unheld
pub mod Within
