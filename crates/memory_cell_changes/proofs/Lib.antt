-- Facts about the bytes of cells and block records that are written.
pub mod Writing
pub mod Parts
pub mod Clearing
