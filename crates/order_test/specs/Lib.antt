-- The part order told place by place, and what the test of an order keeps of the places that it has passed.
pub mod PlacesInTurn
pub mod Times
pub mod Links
pub mod Passed
pub mod Sourced
