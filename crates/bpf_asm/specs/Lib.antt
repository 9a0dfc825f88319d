pub mod Rows
pub mod Typed
pub mod Assembly
pub mod Meaning
pub mod Laws
pub mod Listing
