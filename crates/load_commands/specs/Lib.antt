-- What the reading of a table's commands comes to.
pub mod Progress
pub mod ComponentMade
pub mod SpanRows
pub mod CommandSteps
pub mod Wired
pub mod Spanned
pub mod Beside
