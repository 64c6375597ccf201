-- Facts about cells that are filled.
pub mod Filling
