-- Laws for the proofs of a statement's changes.
pub mod ChangeLaws
pub mod CountedChanges
pub mod OwnStops
