-- The two copies, then the record over them.
use Rattle.std.proofs.Common.{pos, refl}
use Rattle.translation_emission.proofs.Emitting.{emitted-none, emitted-node}
use Rattle.translation_emission.proofs.Parts.{number-literal}
use Rattle.translation_emission.proofs.Output.part.Goals as goal

pub returns : goal.returns
returns c =
    let a = c.args in
    let q = c.requires in
    let x = c.copy-x.ensures in
    let y = c.copy-y.ensures in
    emitted-node a.kind a.mark (pos a.s) 0 x.emitted y.emitted (emitted-none _) q.fact_4 x.root y.root refl
    (rw (c.statement_record.ensures, number-literal a.s q.fact_3) at c.push.ensures)
