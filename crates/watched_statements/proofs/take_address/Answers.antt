-- The fields of the record are those of its statement.
use Rattle.rules.specs.Kinds.{target}
use Rattle.rules.proofs.Runs.StatementArms.{statement-within}
use Rattle.rules.proofs.Runs.TargetFields.{address-fields}
use Rattle.watched_statements.proofs.take_address.Goals as goal

pub find_a-place-requires : goal.find_a-place-requires
find_a-place-requires c =
    let T = c.args.table.now in
    (statement-within target T c.args.n c.requires.0, (address-fields T c.args.n c.requires.0 c.requires.1).1.2)

pub mark-requires : goal.mark-requires
mark-requires c = statement-within target c.args.table.now c.args.n c.requires.0

pub take_evaluated-requires : goal.take_evaluated-requires
take_evaluated-requires c =
    rw c.mark.ensures (address-fields c.args.table.now c.args.n c.requires.0 c.requires.1).0
