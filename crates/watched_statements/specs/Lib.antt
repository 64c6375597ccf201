-- What the code of the watched run is held to.
pub mod Watching
