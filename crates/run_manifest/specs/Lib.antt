pub mod Digesting
pub mod Manifest
