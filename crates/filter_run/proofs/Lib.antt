pub mod Answering
pub mod SessionRuns
pub mod SourceRuns
pub mod TapReading
