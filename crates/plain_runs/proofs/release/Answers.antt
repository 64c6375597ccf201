use Rattle.rules.specs.Kinds.{source}
use Rattle.rules.proofs.Runs.StatementArms.{free-child}
use Rattle.rules.proofs.Runs.SharedExpressions.{target-expression, evaluated-alike}
use Rattle.rules.proofs.Runs.PlainArms.{run-free}
use Rattle.run_changes.proofs.OwnStops.{does_freed}
use Rattle.plain_runs.proofs.Laws.{ran-does}
use Rattle.plain_runs.proofs.ReadyLaws.{ready-within}
use Rattle.plain_runs.proofs.release.Goals as goal

pub evaluate_a-value-requires : goal.evaluate_a-value-requires
evaluate_a-value-requires c =
    let r = c.requires in
    (ready-within r.0, target-expression _ _ (free-child source _ _ r.0.is r.1).2)

pub returns-clause-outcome : goal.returns-clause-outcome
returns-clause-outcome c =
    let r = c.requires in
    ran-does c.args.n _ c.args.progress.now _ (run-free _ _ r.0.is _ _ _ r.1)
    (rw (c.evaluate_a-value.ensures, evaluated-alike _ _ _ _ _ (free-child source _ _ r.0.is r.1).2) at
    (does_freed _ c.free_at-outcome.ensures.change))
    c.stop_at.ensures.outcome c.stop_at.ensures.progress
