-- What the code of new blocks is held to.
pub mod Blocks
