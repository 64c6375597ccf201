-- What new, ended and stored-in blocks do to the free cells and to the next name, and the count at every step of a run.
pub mod Adjusting
pub mod NextNames
pub mod Starting
pub mod Histories
pub mod EveryStep
