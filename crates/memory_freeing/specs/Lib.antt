-- What the code that ends blocks is held to.
pub mod LetBlocks
