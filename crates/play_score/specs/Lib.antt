-- What is printed of a score in either format; the lines that a buffer holds; what the functions that play and print it
-- promise; that all of their texts together are what is printed; and that plain lines are those of the machine's
-- definition.
pub mod Lines
pub mod Held
pub mod Playing
pub mod WholeScore
pub mod PlainLines
