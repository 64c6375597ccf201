-- Facts about operators.
pub mod Asking
