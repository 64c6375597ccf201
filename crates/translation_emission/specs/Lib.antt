-- What the code of emission is held to.
pub mod Emission
