pub mod Capture
pub mod CaptureLaws
pub mod Copy
pub mod OneCapture
