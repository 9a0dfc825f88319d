pub mod Columns
pub mod Counting
pub mod Tallying
pub mod Joining
pub mod Spooling
pub mod Rounds
pub mod Lengths
