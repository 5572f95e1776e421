-- Laws of which steps a part accepts, and of one round of an advance.
pub mod Spans
pub mod Longest
pub mod Ends
pub mod Rounds
pub mod Agreed
pub mod FitParts
