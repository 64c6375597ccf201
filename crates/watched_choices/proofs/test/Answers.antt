-- The fields of the record are those of its statement.
use Rattle.std.proofs.Common.{◌≡◌, arith}
use Rattle.rules.specs.Kinds.{target}
use Rattle.rules.specs.Records.{kind_of}
use Rattle.rules.proofs.Runs.StatementArms.{statement-within, branch-children}
use Rattle.rules.proofs.Runs.TargetFields.{branch-on-fields}
use Rattle.watched_choices.proofs.Choices.{not_on}
use Rattle.watched_choices.proofs.test.Goals as goal

pub kind-requires : goal.kind-requires
kind-requires c = statement-within target c.args.table.now c.args.n c.requires.0

pub mark-requires : goal.mark-requires
mark-requires c = statement-within target c.args.table.now c.args.n c.requires.0

pub test_temporary-requires : goal.test_temporary-requires
test_temporary-requires c =
    let e = c.kind.ensures in
    let q : kind_of c.args.table.now c.args.n ≡ 66 = omega arith in
    omega (arith, c.mark.ensures, (branch-on-fields c.args.table.now c.args.n c.requires.0 q).0)

pub test_a-requires : goal.test_a-requires
test_a-requires c =
    let T = c.args.table.now in
    let e = c.kind.ensures in
    let q = not_on c.requires.1 (λ k. omega arith) in
    (statement-within target T c.args.n c.requires.0, (branch-children target T c.args.n c.requires.0 q).0.2)
