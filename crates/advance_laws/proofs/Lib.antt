-- What rests on `Found`: that the search finds it, and what follows for the outcome of a call.
pub mod Found
pub mod Outcomes
