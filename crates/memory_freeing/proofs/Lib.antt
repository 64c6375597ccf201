-- Facts about the steps of freeing a block.
pub mod Steps
pub mod LetBlockLaws
