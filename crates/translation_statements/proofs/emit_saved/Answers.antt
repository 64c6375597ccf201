-- The parts stand behind one another, and the two sequences over them.
use Rattle.std.proofs.Common.{arith}
use Rattle.translation_emission.proofs.Emitting.{emitted-length, some}
use Rattle.translation_emission.proofs.Parts.{emitted-sequence}
use Rattle.translation_statements.proofs.emit_saved.Goals as goal

pub returns : goal.returns
returns c =
    let a = c.args in
    let room = c.requires.fact_4 in
    let count = c.part.ensures.count in
    let size = emitted-length (omega arith) c.part.ensures in
    let rest = emitted-sequence a.s some some c.part-2.ensures c.leaf.ensures (omega arith) c.sequence.ensures in
    emitted-sequence a.s some some c.part.ensures rest room c.sequence-2.ensures
