-- Facts about a statement's parts.
pub mod Sequences
