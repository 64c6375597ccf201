-- The children of the record are those of its statement.
use Rattle.rules.specs.Kinds.{target}
use Rattle.rules.proofs.Runs.StatementArms.{statement-within, assign-children}
use Rattle.run_changes.proofs.OwnStops.{does_assigned}
use Rattle.watched_statements.proofs.assign.Goals as goal

pub find_a-place-requires : goal.find_a-place-requires
find_a-place-requires c =
    let T = c.args.table.now in (
      statement-within target T c.args.n c.requires.0,
      (assign-children target T c.args.n c.requires.0 c.requires.1).0.2,
    )

pub evaluate_b-value-requires : goal.evaluate_b-value-requires
evaluate_b-value-requires c =
    let T = c.args.table.now in (
      statement-within target T c.args.n c.requires.0,
      (assign-children target T c.args.n c.requires.0 c.requires.1).1.2,
    )

pub returns : goal.returns
returns c = rw (← c.find_a-place.ensures, ← c.evaluate_b-value.ensures) (does_assigned _ _ c.store_at.ensures)
