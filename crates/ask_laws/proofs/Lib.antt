-- The bounds that rest on how many ends a part has.
pub mod Ends
pub mod Rounds
