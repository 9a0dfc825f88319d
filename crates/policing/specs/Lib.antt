pub mod Balance
pub mod Windows
pub mod Word
