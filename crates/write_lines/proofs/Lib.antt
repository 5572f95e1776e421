-- Outputs one after the other, and the bounds of a line.
mod Outputs
mod LineBounds
