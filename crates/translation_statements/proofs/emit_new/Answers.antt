-- The parts stand behind one another, and the three sequences over them.
use Rattle.std.proofs.Common.{arith}
use Rattle.translation_emission.proofs.Emitting.{emitted-length, some}
use Rattle.translation_emission.proofs.Parts.{emitted-sequence}
use Rattle.translation_statements.proofs.emit_new.Goals as goal

pub returns : goal.returns
returns c =
    let s = c.args.s in
    let room = c.requires.fact_4 in
    let count = c.part.ensures.count in
    let size = emitted-length (omega arith) c.part.ensures in
    let count₂ = c.part-2.ensures.count in
    let size₂ = emitted-length (omega arith) c.part-2.ensures in
    let made = emitted-sequence s some some c.part-3.ensures c.emit_stored.ensures (omega arith) c.sequence.ensures in
    let sized = emitted-sequence s some some c.part-2.ensures made (omega arith) c.sequence-2.ensures in
    emitted-sequence s some some c.part.ensures sized room c.sequence-3.ensures
