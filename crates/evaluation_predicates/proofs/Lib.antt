-- Facts about the arms of terms and predicates.
pub mod Arms
