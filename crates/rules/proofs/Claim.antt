-- Demand 3, from the start of both runs on.
pub mod Start
pub mod StartObservation
pub mod WholeRun
pub mod Inputs
pub mod GivenPointers
pub mod UnrefusedRuns
pub mod Claim
