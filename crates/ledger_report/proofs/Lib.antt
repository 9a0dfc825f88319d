pub mod Readings
pub mod Refusals
pub mod Tallies
pub mod TakeSteps
pub mod TapSteps
