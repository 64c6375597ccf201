-- Facts about the bytes of cells and block records.
pub mod Reading
pub mod Apart
