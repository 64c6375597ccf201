-- The children of the record are those of its statement.
use Rattle.rules.specs.Kinds.{target}
use Rattle.rules.proofs.Runs.StatementArms.{statement-within, new-children}
use Rattle.run_changes.proofs.OwnStops.{does_allocated}
use Rattle.watched_statements.proofs.allocate.Goals as goal

pub find_a-place-requires : goal.find_a-place-requires
find_a-place-requires c =
    let T = c.args.table.now in (
      statement-within target T c.args.n c.requires.0,
      (new-children target T c.args.n c.requires.0 c.requires.1).0.2,
    )

pub evaluate_b-size-requires : goal.evaluate_b-size-requires
evaluate_b-size-requires c =
    let T = c.args.table.now in (
      statement-within target T c.args.n c.requires.0,
      (new-children target T c.args.n c.requires.0 c.requires.1).1.2,
    )

pub returns-clause-change : goal.returns-clause-change
returns-clause-change c =
    rw (← c.find_a-place.ensures, ← c.evaluate_b-size.ensures) (does_allocated _ _ c.new_at.ensures.change)
