-- Laws that speak of no part and no model.
pub mod Bools
pub mod ListLaws
pub mod Alls
pub mod Last
pub mod Loops
pub mod Partway
pub mod Numbers
pub mod Signed
pub mod Kinds
pub mod Below
pub mod Marks
pub mod Once
pub mod WordMarks
