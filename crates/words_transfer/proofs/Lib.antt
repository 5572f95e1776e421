-- What putting a model comes to, for the goals of `put_model`.
pub mod Outcomes
