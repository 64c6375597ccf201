-- What is emitted: how many records, accepted by the checker, and read back as the target's trees.
pub mod Counting
pub mod RecordSizes
pub mod RecordCopies
pub mod SizeBound
pub mod SoundTranslation
pub mod RecordBytes
pub mod EmissionLaws
pub mod FittingTrees
pub mod TargetFitting
pub mod EmittedBytes
pub mod BuiltNodes
pub mod RootNodes
pub mod ReadBack
pub mod ShapeLaws
pub mod ScopeKept
pub mod TargetAccepted
pub mod TranslatedTables
