pub mod Crossing
pub mod Delivering
pub mod FedTaps
pub mod RingItems
pub mod TwoTaps
