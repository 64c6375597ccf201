-- The translation runs as its source does.
pub mod Mirror
pub mod PredicateSimulation
pub mod StatementSteps
pub mod BlockSteps
pub mod Simulation
