-- What the code of the start is held to.
pub mod Starting
