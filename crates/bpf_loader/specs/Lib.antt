pub mod Paths
pub mod Faults
pub mod Typed
pub mod Masks
pub use Rattle.bpf_isa.specs.Machine
pub use Rattle.bpf_isa.specs.Table
