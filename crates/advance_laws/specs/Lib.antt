-- Laws of the search for a step, and of the calls that it answers.
pub mod SearchFuel
pub mod Fair
pub mod Found
pub mod Frame
pub mod SearchTurns
pub mod Outcomes
