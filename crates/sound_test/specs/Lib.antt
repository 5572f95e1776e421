-- What soundness asks of one part, of a model with its unused places, and of a whole model test by test.
pub mod Parts
pub mod TrimmedPlaces
pub mod Whole
pub mod LentSurveyed
pub mod LentWhole
