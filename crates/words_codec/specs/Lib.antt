-- Numbers and fields as words, and what words mean as numbers and fields: what the contracts of this crate and of
-- `words_store` cite; then laws of them.
pub mod Words
pub mod Encoded
pub mod Decoded
pub mod Tables
pub mod Sized
pub mod Fields
