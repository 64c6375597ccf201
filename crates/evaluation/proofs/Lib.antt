-- Facts about the arms of evaluating and finding.
pub mod Arms
