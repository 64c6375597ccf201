-- What the code of predicates is held to.
pub mod Joints
