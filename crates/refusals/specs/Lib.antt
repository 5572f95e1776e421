-- The number of each refusal, what a call that writes returns, and the laws of a refusal with another after it.
pub mod Numbers
pub mod Unwritten
pub mod FirstRefusal
pub mod Told
