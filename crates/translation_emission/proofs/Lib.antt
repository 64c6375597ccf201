-- Facts about records put into the output.
pub mod Puts
pub mod Emitting
pub mod Copying
pub mod Parts
