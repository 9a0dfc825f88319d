pub mod Counts
pub mod Kept
pub mod OneReading
pub mod Shown
pub mod Texts
pub mod Written
