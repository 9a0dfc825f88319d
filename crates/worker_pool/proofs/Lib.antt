pub mod Chunking
pub mod Claiming
pub mod Crossing
pub mod Asking
pub mod Ordering
