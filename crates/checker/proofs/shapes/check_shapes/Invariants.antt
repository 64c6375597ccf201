-- What is known after the records above n.
use Rattle.checker.proofs.TurnLaws.{Passing}
use Rattle.checker.proofs.shapes.check_shapes.Given as goal

abbrev pub invariant-loop-n : goal.invariant-loop-n
invariant-loop-n l = Passing l.language l.table l.notes l.misshapen l.hidden l.n
