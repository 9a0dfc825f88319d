pub mod Sums
pub mod Numbers
pub mod Steps
pub mod Closing
pub mod Masks
pub mod Drawing
