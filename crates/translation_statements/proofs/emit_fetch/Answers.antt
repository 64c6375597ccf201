-- Three records, each over the one before it.
use Rattle.std.proofs.Common.{pos, arith}
use Rattle.translation_emission.proofs.Emitting.{some}
use Rattle.translation_emission.proofs.Parts.{number-literal, emitted-over, emitted-leaf}
use Rattle.translation_statements.proofs.emit_fetch.Goals as goal

pub returns : goal.returns
returns c =
    let s = c.args.s in
    let q = c.requires in
    let room = q.fact_2 in
    let below = emitted-leaf 12 0 (pos 0) 0 (omega arith) c.push.ensures in
    let fetched = emitted-over 2 0 (pos 0) some below (omega arith) c.push-2.ensures in
    emitted-over 61 1 (pos s) some fetched room
    (rw (c.statement_record.ensures, number-literal s q.fact_1) at c.push-3.ensures)
