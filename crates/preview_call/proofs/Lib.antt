-- A preview on lent words and the advance that it foretold, an example.
pub mod PreviewedWords
pub mod EveryPreviewed
pub mod LentResults
