-- Laws of a save, which its proofs cite.
pub mod Operands
pub mod TableText
pub mod TableSweep
