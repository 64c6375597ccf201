-- What the code of the plain run's statements is held to.
pub mod Running
