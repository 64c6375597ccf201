-- What demand 3 of the entry points is held to; and the version.
pub mod BothRuns
pub mod Version
