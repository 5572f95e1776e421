-- Laws of the order of parts, and of filling a point's outputs in that order.
pub mod Order
pub mod OrderFuel
pub mod Stuck
pub mod Row
pub mod Filling
pub mod Models
pub mod StaleOutputs
