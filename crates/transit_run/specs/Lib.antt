pub mod Counts
pub mod Held
pub mod Ledger
pub mod Line
pub mod Outcome
pub mod Partners
pub mod Told
pub mod Waits
