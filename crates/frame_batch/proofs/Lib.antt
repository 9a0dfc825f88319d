mod Batches
pub mod Drafts
pub mod Queues
