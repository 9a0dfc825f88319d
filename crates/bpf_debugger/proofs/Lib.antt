pub mod Reverting
pub mod Stores
pub mod Chains
pub mod Walks
pub mod Sessions
pub mod Words
pub mod Folding
