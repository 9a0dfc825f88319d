pub mod Asm
pub mod Laws
pub mod Sessions
pub mod WholeTap
