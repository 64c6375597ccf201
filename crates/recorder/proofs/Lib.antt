-- Demand 3 of the entry points.
pub mod BothLaws
