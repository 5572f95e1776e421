-- Questions asked of all parts of a model in words: rounds, the first and those after it, and trials.
pub mod Askable
pub mod LentAsked
pub mod LaterRounds
pub mod Trials
pub mod LentTrial
