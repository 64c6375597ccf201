-- What an ended outcome tells: its statement, the variables' blocks, and the pointer that was used.
pub mod KeptEvaluations
pub mod UsedLaws
pub mod UsedChanges
pub mod NamedPointers
pub mod StatementsTold
pub mod DeadOrOutside
pub mod AskedBlocks
pub mod Orders
