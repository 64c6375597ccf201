-- The pointer that a run used where it ended.
pub mod UsedPointers
-- The blocks that an operator asks about.
pub mod ComparedBlocks
