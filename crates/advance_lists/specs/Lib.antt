-- Document 01's third demand, to be read from top to bottom: the points of a list of steps, steps made alone, what one
-- call owes, the bounds of an answer, and the claim about a whole list of calls, from a sound model and from a stream
-- that loads; lists with previews in them; and lists of which the claims are false.
pub mod Points
pub mod StepsAlone
pub mod RoundsOwed
pub mod Bounds
pub mod Claims
pub mod Demand3
pub mod PreviewLists
pub mod Refuted
