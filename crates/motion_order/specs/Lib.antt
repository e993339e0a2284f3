pub mod Classes
pub mod Ends
pub mod Gathered
pub mod InClasses
pub mod InOrder
