-- Facts about the search for a run of free places.
pub mod Runs
