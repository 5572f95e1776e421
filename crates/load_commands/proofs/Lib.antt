-- Laws that proofs cite.
pub mod WireJudged
