-- What the code of simple statements is held to.
pub mod Statements
