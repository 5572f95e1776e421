-- What rests on `passed_point`: pulses' points (k × P, 1), and so document 01's third demand.
pub mod StepsAlone
pub mod Claims
pub mod Demand3
pub mod PreviewLists
