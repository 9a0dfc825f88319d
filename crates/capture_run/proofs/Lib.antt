pub mod Accepted
pub mod Copying
pub mod Stopping
pub mod WholeCapture
