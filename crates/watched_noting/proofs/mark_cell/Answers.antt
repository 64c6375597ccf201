-- The field of the record is that of its statement.
use Rattle.std.proofs.Common.{arith}
use Rattle.rules.specs.Kinds.{target}
use Rattle.rules.proofs.Runs.StatementArms.{statement-within}
use Rattle.rules.proofs.Runs.TargetFields.{initialise-fields}
use Rattle.watched_noting.proofs.mark_cell.Goals as goal

pub mark-first-requires : goal.mark-first-requires
mark-first-requires c = statement-within target c.args.table.now c.args.n c.requires.0

pub read_temporary-requires : goal.read_temporary-requires
read_temporary-requires c =
    omega (arith, c.mark-first.ensures, initialise-fields c.args.table.now c.args.n c.requires.0 c.requires.1)
