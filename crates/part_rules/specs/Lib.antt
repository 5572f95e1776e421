-- What is found at a kind's number, by document 01's number and values.
pub mod KindMeant
