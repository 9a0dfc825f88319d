pub mod Device
pub mod Fault
pub mod Opening
pub mod Recording
