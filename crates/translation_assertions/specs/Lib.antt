-- What the code of assertions is held to.
pub mod Tests
