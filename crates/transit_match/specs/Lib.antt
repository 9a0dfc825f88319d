pub mod Forgetting
pub mod Lanes
pub mod Laws
pub mod Pairing
pub mod Waiting
