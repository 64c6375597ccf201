use Rattle.std.proofs.Common.{refl, sym, ◌∙◌, w64}
use mir.Facts.{to_z-of_z}
use Rattle.rules.specs.Kinds.{expression}
use Rattle.rules.specs.Layout.{memory_of}
use Rattle.evaluation.specs.State.{variables_of}
use Rattle.evaluation.proofs.Arms.{within, read_below, literal-arm, read-arm, settles-as}
use Rattle.evaluation.proofs.settle.Goals as goal

pub kind-requires : goal.kind-requires
kind-requires c = within c.args.table.now c.args.n expression c.requires

pub literal-requires : goal.literal-requires
literal-requires c = within c.args.table.now c.args.n expression c.requires

pub child_a-requires : goal.child_a-requires
child_a-requires c = within c.args.table.now c.args.n expression c.requires

pub settle_read-requires : goal.settle_read-requires
settle_read-requires c =
    rw c.child_a.ensures (read_below c.args.table.now c.args.n c.requires (sym c.kind.ensures ∙ c.in-2.is)).2

pub returns-in-1 : goal.returns-in-1
returns-in-1 c τ =
    let a = c.args in
    let f = to_z-of_z {w = w64} {z = c.literal.result} (record { sfits = c.literal.type_inv }) in
    literal-arm a.table.now τ (variables_of a.variables.now) (memory_of a.mem.now) a.n c.requires
    (sym c.kind.ensures ∙ c.in-1.is) (f ∙ c.literal.ensures)

pub returns-in-2 : goal.returns-in-2
returns-in-2 c =
    let a = c.args in
    settles-as c.settle_read.result
    (λ τ. read-arm a.table.now τ (variables_of a.variables.now) (memory_of a.mem.now) a.n c.requires
    (sym c.kind.ensures ∙ c.in-2.is) c.child_a.ensures refl refl)
    c.settle_read.ensures
