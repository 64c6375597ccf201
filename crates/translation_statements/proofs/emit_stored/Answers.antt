-- The parts stand behind one another, and the two sequences over them.
use Rattle.std.proofs.Common.{arith}
use Rattle.translation_emission.proofs.Emitting.{emitted-length, some}
use Rattle.translation_emission.proofs.Parts.{emitted-sequence}
use Rattle.translation_statements.proofs.emit_stored.Goals as goal

pub returns : goal.returns
returns c =
    let s = c.args.s in
    let room = c.requires.fact_2 in
    let count = c.emit_fetch.ensures.count in
    let size = emitted-length (omega arith) c.emit_fetch.ensures in
    let rest = emitted-sequence s some some c.leaf.ensures c.leaf-2.ensures (omega arith) c.sequence.ensures in
    emitted-sequence s some some c.emit_fetch.ensures rest room c.sequence-2.ensures
