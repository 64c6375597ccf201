-- Facts about unused names and runs of free cells.
pub mod Runs
