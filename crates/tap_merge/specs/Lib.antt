pub mod Reads
pub mod Rings
pub mod Parcels
pub mod Taps
pub mod Threads
