pub mod Told
pub mod Causes
pub mod Rows
