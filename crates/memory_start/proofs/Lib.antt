-- Facts about the start of the execution memory.
pub mod Starting
