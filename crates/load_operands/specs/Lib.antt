-- What the operands of commands mean, the numbers of refusals, and what the score holds.
pub mod Operands
pub mod Refusals
pub mod ScoreRead
pub mod Tests
