-- What the promises of this crate cite besides the definitions of `machine` and `write_bytes`.
pub mod LineNumbers
pub mod LentLines
