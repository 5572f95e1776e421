-- Lemmas of proofs.
pub mod Rowed
