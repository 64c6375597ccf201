-- Laws for the proofs of the watched run.
pub mod MemberLaws
