pub mod Classing
pub mod Gathering
pub mod Marking
pub mod Sorting
