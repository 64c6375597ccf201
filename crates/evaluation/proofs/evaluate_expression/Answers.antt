use Rattle.std.proofs.Common.{sym, ◌∙◌, w64}
use mir.Facts.{to_z-of_z}
use Rattle.rules.specs.Kinds.{expression}
use Rattle.rules.specs.Layout.{memory_of}
use Rattle.rules.specs.Watched.{temporary_of}
use Rattle.evaluation_temporaries.specs.Bytes.{temporaries_of}
use Rattle.evaluation.specs.State.{variables_of}
use Rattle.evaluation.proofs.Arms.{within, literal-arm}
use Rattle.evaluation.proofs.evaluate_expression.Goals as goal

pub kind-requires : goal.kind-requires
kind-requires c = within c.args.table.now c.args.n expression c.requires

pub literal-requires : goal.literal-requires
literal-requires c = within c.args.table.now c.args.n expression c.requires

pub returns-then-kind-eq1 : goal.returns-then-kind-eq1
returns-then-kind-eq1 c =
    let a = c.args in
    let f = to_z-of_z {w = w64} {z = c.literal.result} (record { sfits = c.literal.type_inv }) in
    literal-arm a.table.now (temporary_of (temporaries_of a.temporaries.now)) (variables_of a.variables.now)
    (memory_of a.mem.now) a.n c.requires (sym c.kind.ensures ∙ c.if-kind-eq1.true) (f ∙ c.literal.ensures)
