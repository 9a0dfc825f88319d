pub mod Facts
pub mod Frame
pub mod FrameBytes
pub mod Number
pub mod View
