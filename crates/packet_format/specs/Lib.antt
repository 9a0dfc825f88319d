pub mod Comment
pub mod Packets
pub mod Writer
