-- What the code that fills cells is held to.
pub mod Filling
