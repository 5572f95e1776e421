-- Laws of playing and printing: the lines from a position on, the answer of a call, how printing begins, that all
-- texts together are what is printed, and the empty stream.
pub mod Commands
pub mod Answers
pub mod Openings
pub mod WholeScore
pub mod EmptyInput
