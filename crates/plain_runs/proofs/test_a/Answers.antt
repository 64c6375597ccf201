use Rattle.rules.proofs.Runs.SharedExpressions.{target-expression, evaluated-alike}
use Rattle.plain_runs.proofs.test_a.Goals as goal

pub test_a-requires : goal.test_a-requires
test_a-requires c = (c.requires.0, target-expression _ _ c.requires.1)

pub returns : goal.returns
returns c = rw (c.test_a.ensures, evaluated-alike _ _ _ _ _ c.requires.1)
