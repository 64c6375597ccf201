use Rattle.rules.proofs.Runs.PlainArms.{assert-child, run-assert}
use Rattle.plain_runs.proofs.Laws.{ran-does, does-asserted}
use Rattle.plain_runs.proofs.ReadyLaws.{ready-within}
use Rattle.plain_runs.proofs.assert.Goals as goal

pub test_predicate-requires : goal.test_predicate-requires
test_predicate-requires c =
    (ready-within c.requires.0, (assert-child c.args.table.now c.args.n c.requires.0.is c.requires.1).2)

pub returns : goal.returns
returns c =
    let r = c.requires in
    ran-does c.args.n _ c.args.progress.now _ (run-assert _ _ r.0.is _ _ _ r.1)
    (does-asserted _ (rw c.test_predicate.ensures at c.assert_true-outcome.ensures))
    c.stop_at.ensures.outcome c.stop_at.ensures.progress
