pub mod Chunks
pub mod Shares
pub mod Replies
pub mod Flights
