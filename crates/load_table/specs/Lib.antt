-- What reading a table's commands in turn comes to, up to its End.
pub mod Turning
pub mod Concluded
pub mod Turned
pub mod Stands
pub mod SpansKept
pub mod Judged
pub mod EndReached
