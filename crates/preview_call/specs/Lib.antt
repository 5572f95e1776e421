-- What a preview on lent words promises, and lists of calls in which previews are among advances, and their results.
pub mod PreviewedInto
pub mod EveryPreviewed
pub mod LentResults
