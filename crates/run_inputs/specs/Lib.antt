pub mod Inputs
pub mod Text
