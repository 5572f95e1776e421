-- Lemmas for the goals of functions.
pub mod Values
