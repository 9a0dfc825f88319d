pub mod Counts
pub mod CountsLines
pub mod FrameLines
pub mod Held
pub mod Reading
pub mod Refused
pub mod TapLines
pub mod Wrongs
