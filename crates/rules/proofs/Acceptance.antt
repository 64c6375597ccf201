-- What acceptance by the checker gives: the trees of an accepted table.
pub mod Sound
pub mod ParentLaws
pub mod ScopeLaws
pub mod CheckLaws
pub mod Acceptance
pub mod KindViews
pub mod NodeLaws
pub mod FormLaws
pub mod Standing
pub mod AcceptedTrees
pub mod RecordScopes
pub mod SaidLaws
pub mod Readiness
pub mod SoundSource
pub mod SoundTargets
pub mod AcceptedPrograms
pub mod Padding
