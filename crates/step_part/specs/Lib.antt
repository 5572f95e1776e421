-- The ranges that the functions on one part ask for, and the local ticks that a step adds.
pub mod Gain
pub mod PartRanges
