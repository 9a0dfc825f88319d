pub mod Endings
pub mod Given
pub mod Joining
pub mod Joins
pub mod Reading
pub mod Runs
pub mod Starts
