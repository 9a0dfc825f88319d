pub mod Deliveries
pub mod Word
