-- What the tests of soundness come to, one after the other, and the test of a trimmed part.
pub mod Tested
pub mod Trimmed
