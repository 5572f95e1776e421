-- A model's parts changed place by place: readings of ports, what trimming keeps, parts moved, filled and settled, the
-- step that they make, and the start point.
pub mod Reading
pub mod Trimmed
pub mod Fillable
pub mod WiredParts
pub mod InPlace
pub mod Moving
pub mod Settling
pub mod FillingInOrder
pub mod Anyway
pub mod Showing
pub mod LentReading
pub mod LentFilling
pub mod StepMade
pub mod StepShown
pub mod StepInto
pub mod LentMoving
pub mod LentStep
pub mod Start
pub mod LentStart
pub mod CallsAnyway
