pub mod Accepted
pub mod Faced
pub mod Laid
pub mod Redraw
pub mod Refresh
pub mod Refused
pub mod Rows
pub mod Unique
