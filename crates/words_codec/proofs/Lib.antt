-- Two's complement, as the library's casts compute it.
pub mod Signed
