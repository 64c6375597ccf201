-- What the numbers of an ending are held to.
pub mod Ending
