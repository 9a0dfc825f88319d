pub mod Lanes
pub mod Lawful
pub mod Lists
pub mod Pairs
pub mod Stands
