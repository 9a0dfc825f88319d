pub mod Batch
pub mod Cursor
pub mod Queue
pub mod Round
