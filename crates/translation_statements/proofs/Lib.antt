-- Facts about simple statements.
pub mod Statements
