-- Laws for the proofs of the plain run's statements.
pub mod Laws
pub mod ReadyLaws
pub mod MemberLaws
