pub mod Buffer
pub mod Copying
pub mod Cursor
pub mod Laws
pub mod Merge
pub mod Order
pub mod Recording
