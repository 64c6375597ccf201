-- Laws for the proofs of the plain run's entry.
pub mod EntryLaws
