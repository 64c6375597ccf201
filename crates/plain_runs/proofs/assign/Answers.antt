use Rattle.rules.specs.Kinds.{source}
use Rattle.rules.proofs.Runs.StatementArms.{assign-children}
use Rattle.rules.proofs.Runs.SharedExpressions.{target-expression, target-place, evaluated-alike, found_alike}
use Rattle.rules.proofs.Runs.PlainArms.{run-assign}
use Rattle.run_changes.proofs.CountedChanges.{counted-assigned}
use Rattle.run_changes.proofs.OwnStops.{does_assigned}
use Rattle.plain_runs.proofs.Laws.{ran-does}
use Rattle.plain_runs.proofs.ReadyLaws.{ready-within}
use Rattle.plain_runs.proofs.assign.Goals as goal

pub find_a-place-requires : goal.find_a-place-requires
find_a-place-requires c =
    let r = c.requires in
    (ready-within r.0, target-place _ _ (assign-children source _ _ r.0.is r.1).0.2)

pub evaluate_b-value-requires : goal.evaluate_b-value-requires
evaluate_b-value-requires c =
    let r = c.requires in
    (ready-within r.0, target-expression _ _ (assign-children source _ _ r.0.is r.1).1.2)

pub returns-clause-outcome : goal.returns-clause-outcome
returns-clause-outcome c =
    let r = c.requires in
    let q = assign-children source _ _ r.0.is r.1 in
    ran-does c.args.n _ c.args.progress.now _ (run-assign _ _ r.0.is _ _ _ r.1)
    (rw (
      c.find_a-place.ensures,
      found_alike _ _ _ _ _ q.0.2,
      c.evaluate_b-value.ensures,
      evaluated-alike _ _ _ _ _ q.1.2,
    ) at (does_assigned _ _ c.store_at-outcome.ensures))
    c.stop_at.ensures.outcome c.stop_at.ensures.progress

pub returns-clause-counts : goal.returns-clause-counts
returns-clause-counts c = λ k h. counted-assigned h _ _ (does_assigned _ _ c.store_at-outcome.ensures).memory
