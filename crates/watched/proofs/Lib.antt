-- Laws for the proofs of the watched run's entry.
pub mod EntryLaws
