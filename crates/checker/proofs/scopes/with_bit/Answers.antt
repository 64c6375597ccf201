-- A power of 2 has one bit, and the bits of both stand in what is or'ed.
use Rattle.checker.proofs.BitLaws.{bit-with}
use Rattle.checker.proofs.scopes.with_bit.Goals as goal

pub returns : goal.returns
returns c = λ y. bit-with c.args.x c.args.scope y c.requires
