-- The fields of the record are those of its statement.
use Rattle.std.proofs.Common.{arith, sym, ◌∙◌}
use Rattle.rules.specs.Kinds.{target}
use Rattle.rules.proofs.Runs.StatementArms.{statement-within}
use Rattle.rules.proofs.Runs.TargetFields.{operation-fields, query-fields, not-fields}
use Rattle.watched_steps.proofs.StepLaws.{take_last, chosen-fits}
use Rattle.watched_steps.proofs.take.Goals as goal

pub kind-kind-requires : goal.kind-kind-requires
kind-kind-requires c = statement-within target c.args.table.now c.args.n c.requires.0

pub mark-first-requires : goal.mark-first-requires
mark-first-requires c = statement-within target c.args.table.now c.args.n c.requires.0

pub child_c-chosen-requires : goal.child_c-chosen-requires
child_c-chosen-requires c = statement-within target c.args.table.now c.args.n c.requires.0

pub overflow_cast-chosen : goal.overflow_cast-chosen
overflow_cast-chosen c =
    let f = chosen-fits c.args.table.now c.args.n c.requires.0 c.requires.1 in
    record { fits = omega (arith, c.child_c-chosen.ensures, f) }

pub take_operation-requires : goal.take_operation-requires
take_operation-requires c =
    let q = sym c.kind-kind.ensures ∙ c.in-63.is in
    omega (arith, c.mark-first.ensures, (operation-fields c.args.table.now c.args.n c.requires.0 q).0)

pub take_query-requires : goal.take_query-requires
take_query-requires c =
    let q = sym c.kind-kind.ensures ∙ c.in-64.is in
    omega (arith, c.mark-first.ensures, (query-fields c.args.table.now c.args.n c.requires.0 q).0)

pub take_not-requires : goal.take_not-requires
take_not-requires c =
    let e = c.kind-kind.ensures in
    let q = take_last c.requires.1 (λ k. omega arith) (λ k. omega arith) in
    omega (arith, c.mark-first.ensures, not-fields c.args.table.now c.args.n c.requires.0 q)
