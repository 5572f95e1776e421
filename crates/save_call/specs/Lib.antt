-- What a save on lent words promises, the table that such words mean, and what follows for a caller.
pub mod LentTable
pub mod SavedInto
pub mod SavesOwed
