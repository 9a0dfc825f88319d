pub mod Entry
pub mod Laws
pub mod Ledger
pub mod Tally
pub mod Text
pub mod Writing
pub mod Room
