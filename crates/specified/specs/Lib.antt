pub mod Events
pub mod Filters
pub mod Recording
pub mod Whole
