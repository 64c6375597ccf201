-- Facts about sizes.
pub mod SizeSteps
