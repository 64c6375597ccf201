-- What a run's counts are held to.
pub mod Counted
