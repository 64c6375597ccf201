-- A statement's literal is a number of 32 bits.
use Rattle.std.proofs.Common.{arith}
use Rattle.std.proofs.lemmas.Int.{ints}
use Rattle.rules.specs.Kinds.{target}
use Rattle.rules.proofs.Runs.StatementArms.{statement-within}
use Rattle.rules.proofs.Runs.TargetFields.{literal-is, statement-numbered}
use Rattle.watched_choices.proofs.statement_of.Goals as goal

pub literal-literal-requires : goal.literal-literal-requires
literal-literal-requires c = statement-within target c.args.table.now c.args.n c.requires

pub overflow_cast-result : goal.overflow_cast-result
overflow_cast-result c =
    let T = c.args.table.now in
    let is = c.literal-literal.ensures in
    omega (arith, ints, literal-is T c.args.n c.requires, statement-numbered T c.args.n c.requires)
