-- The child of the record is that of its statement.
use Rattle.rules.specs.Kinds.{target}
use Rattle.rules.proofs.Runs.StatementArms.{statement-within, free-child}
use Rattle.run_changes.proofs.OwnStops.{does_freed}
use Rattle.watched_statements.proofs.release.Goals as goal

pub evaluate_a-value-requires : goal.evaluate_a-value-requires
evaluate_a-value-requires c =
    let T = c.args.table.now in
    (statement-within target T c.args.n c.requires.0, (free-child target T c.args.n c.requires.0 c.requires.1).2)

pub returns-clause-change : goal.returns-clause-change
returns-clause-change c = rw (← c.evaluate_a-value.ensures) (does_freed _ c.free_at.ensures.change)
