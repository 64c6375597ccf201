-- The record of a tree of one.
use Rattle.std.proofs.Common.{pos}
use Rattle.translation_emission.proofs.Parts.{number-literal, emitted-leaf}
use Rattle.translation_emission.proofs.Output.leaf.Goals as goal

pub returns : goal.returns
returns c =
    let a = c.args in
    let q = c.requires in
    emitted-leaf a.kind a.mark (pos a.s) a.c q.fact_2 (rw (c.statement_record.ensures, number-literal a.s q.fact_1) at c.push.ensures)
