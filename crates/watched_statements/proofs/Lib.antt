-- Laws for the proofs of the watched run's statements.
pub mod Laws
pub mod ReadyLaws
pub mod ActLaws
