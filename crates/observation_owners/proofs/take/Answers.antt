use Rattle.std.proofs.Common.{arith}
use Rattle.rules.proofs.Lists.FillLaws.{fill-part}
use Rattle.observation_owners.proofs.take.Goals as goal

pub returns-clause-owners : goal.returns-clause-owners
returns-clause-owners c = grind (arith, fill-part)
