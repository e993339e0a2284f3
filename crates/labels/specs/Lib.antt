pub mod Frontier
pub mod Label
pub mod Line
pub mod Note
pub mod Trail
