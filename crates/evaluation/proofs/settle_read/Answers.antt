use Rattle.std.proofs.Common.{sym, ap, ◌∙◌}
use Rattle.rules.specs.Kinds.{place}
use Rattle.rules.specs.Memory.{on_place, read_cell}
use Rattle.rules.specs.Layout.{memory_of}
use Rattle.rules.specs.Types.{Found}
use Rattle.evaluation.specs.State.{variables_of}
use Rattle.evaluation.proofs.Arms.{within, variable-mark, variable-arm}
use Rattle.evaluation.proofs.settle_read.Goals as goal
use Rattle.std.specs.Prelude.{Err}

pub kind-requires : goal.kind-requires
kind-requires c = within c.args.table.now c.args.n place c.requires

pub mark-v-requires : goal.mark-v-requires
mark-v-requires c = within c.args.table.now c.args.n place c.requires

pub bounds-variables-v : goal.bounds-variables-v
bounds-variables-v c =
    rw c.mark-v.ensures
    (variable-mark c.args.table.now c.args.n c.requires (sym c.kind.ensures ∙ c.if-kind-eq10.true))

pub returns-then-kind-eq10 : goal.returns-then-kind-eq10
returns-then-kind-eq10 c τ =
    let a = c.args in
    let m = memory_of a.mem.now in
    c.read.ensures
    ∙ ap (λ (f : Found). on_place f Err (read_cell m))
    (variable-arm a.table.now τ (variables_of a.variables.now) m a.n c.requires
    (sym c.kind.ensures ∙ c.if-kind-eq10.true) c.mark-v.ensures)
