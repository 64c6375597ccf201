-- The fields of the record are those of its statement.
use Rattle.rules.specs.Kinds.{target}
use Rattle.rules.proofs.Runs.StatementArms.{statement-within}
use Rattle.rules.proofs.Runs.TargetFields.{value-fields}
use Rattle.watched_statements.proofs.take_value.Goals as goal

pub evaluate_a-value-requires : goal.evaluate_a-value-requires
evaluate_a-value-requires c =
    let T = c.args.table.now in
    (statement-within target T c.args.n c.requires.0, (value-fields T c.args.n c.requires.0 c.requires.1).1.2)

pub mark-requires : goal.mark-requires
mark-requires c = statement-within target c.args.table.now c.args.n c.requires.0

pub take_evaluated-requires : goal.take_evaluated-requires
take_evaluated-requires c =
    rw c.mark.ensures (value-fields c.args.table.now c.args.n c.requires.0 c.requires.1).0
