-- What the code of cells and block records is held to.
pub mod Changes
pub mod Starts
