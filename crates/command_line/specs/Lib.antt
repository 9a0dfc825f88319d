pub mod Lateness
pub mod Moment
pub mod Numbers
pub mod Selections
