pub mod Buffers
pub mod Following
pub mod Merging
pub mod Rising
pub mod WholeRuns
