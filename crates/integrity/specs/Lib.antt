pub mod Sequence
pub mod Word
