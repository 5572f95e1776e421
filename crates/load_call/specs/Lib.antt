-- No model, the places of a table's parts, what End comes to, positions; and what `load`'s contract comes to for a
-- caller (`LoadOwed`).
pub mod Blank
pub mod Accepting
pub mod FirstPlaces
pub mod EndRefusals
pub mod Position
pub mod LoadOwed
