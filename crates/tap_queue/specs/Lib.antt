pub mod Batches
pub mod Items
pub mod Passing
pub mod Ring
