pub mod Events
pub mod Recordings
