-- What the exported calls promise.
pub mod PutFront
pub mod Exported
