-- The order of parts as the code finds it, by the direct sources of the parts alone.
pub mod Direct
pub mod OrderByMarks
