-- What changes of the memory are to its counts.
pub mod CountLaws
