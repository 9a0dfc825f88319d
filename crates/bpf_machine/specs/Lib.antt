pub mod Branch
pub mod Run
pub use Rattle.bpf_isa.specs.Table
pub use Rattle.bpf_isa.specs.Machine
