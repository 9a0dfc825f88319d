pub mod Laws
pub mod Typed
pub mod ByInsn
pub mod Canonical
pub mod Pass
