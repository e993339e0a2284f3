pub mod Answers
pub mod Bytes
pub mod Lawful
pub mod Letter
pub mod Meaning
