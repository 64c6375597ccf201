-- A shift, and then the lowest bit.
use Rattle.checker.proofs.BitLaws.{bit_shifted}
use Rattle.checker.proofs.scopes.has_bit.Goals as goal

pub returns : goal.returns
returns c = bit_shifted c.args.x c.args.scope
