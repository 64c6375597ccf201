-- Laws for the proofs of the entry.
pub mod EntryLaws
