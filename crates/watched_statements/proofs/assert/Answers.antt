-- The field of the record is that of its statement.
use Rattle.std.proofs.Common.{arith}
use Rattle.rules.specs.Kinds.{target}
use Rattle.rules.proofs.Runs.StatementArms.{statement-within}
use Rattle.rules.proofs.Runs.TargetFields.{assert-on-fields}
use Rattle.watched_statements.proofs.assert.Goals as goal

pub mark-requires : goal.mark-requires
mark-requires c = statement-within target c.args.table.now c.args.n c.requires.0

pub test_temporary-t-requires : goal.test_temporary-t-requires
test_temporary-t-requires c =
    omega (arith, c.mark.ensures, assert-on-fields c.args.table.now c.args.n c.requires.0 c.requires.1)
