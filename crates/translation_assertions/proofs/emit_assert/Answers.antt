-- The predicate's records, then the last record and the sequence over them.
use Rattle.translation_emission.proofs.Emitting.{some}
use Rattle.translation_emission.proofs.Parts.{emitted-sequence}
use Rattle.translation_assertions.proofs.Tests.{test-some}
use Rattle.translation_assertions.proofs.emit_assert.Goals as goal

pub returns : goal.returns
returns c =
    let a = c.args in
    let q = c.requires in
    emitted-sequence a.s (test-some a.table.now a.a a.s 0 q.fact_1) some c.emit_test.ensures c.leaf.ensures q.fact_3
    c.sequence.ensures
