-- What the code of the plain run is held to.
pub mod Answering
