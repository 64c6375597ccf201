-- Layouts: what fits into its bytes, and is read back from them.
pub mod FitsLaws
pub mod LayoutLaws
pub mod ImagePuts
pub mod FittingValues
pub mod KeptPredicates
pub mod Reachable
pub mod ReachableRoundTrip
pub mod ObservationBytes
