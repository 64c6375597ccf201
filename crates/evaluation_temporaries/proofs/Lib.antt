-- Facts about the temporaries' bytes.
pub mod Reading
pub mod Writing
