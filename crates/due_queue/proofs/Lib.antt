pub mod Swaps
pub mod Heaps
pub mod Sleepers
pub mod Queues
