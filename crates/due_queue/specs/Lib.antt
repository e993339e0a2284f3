pub mod Awake
pub mod Heap
pub mod Numbering
pub mod Queue
pub mod Rank
