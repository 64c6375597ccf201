-- Laws for the proofs of the variables.
pub mod VariableLaws
