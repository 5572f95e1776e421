-- What words mean, whether they spell a model, which of them are free, and what writing a part's state into them
-- changes.
pub mod Layout
pub mod ModelIn
pub mod Form
pub mod Clean
pub mod WordsWritten
pub mod Updated
pub mod StoreFrame
pub mod Shown
pub mod NumbersPut
pub mod Spelling
pub mod Respelled
pub mod CleanKept
pub mod Free
