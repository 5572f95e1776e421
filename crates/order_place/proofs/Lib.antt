-- What the proofs of this crate share: laws of the search for the lowest candidate, and of an order partway.
pub mod Candidates
pub mod PlacedPartway
