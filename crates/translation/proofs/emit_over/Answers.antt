-- A leaf, then the record over it.
use Rattle.std.proofs.Common.{pos, arith}
use Rattle.translation_emission.proofs.Emitting.{some}
use Rattle.translation_emission.proofs.Parts.{number-literal, emitted-over}
use Rattle.translation.proofs.LetLaws.{emitted-childless}
use Rattle.translation.proofs.emit_over.Goals as goal

pub returns : goal.returns
returns c =
    let a = c.args in
    let q = c.requires in
    let room = q.fact_3 in
    let below = emitted-childless q.fact_2 (omega arith) c.push.ensures in
    emitted-over a.kind a.mark (pos a.s) some below room
    (rw (c.statement_record.ensures, number-literal a.s q.fact_1) at c.push-2.ensures)
