use Rattle.std.proofs.Common.{arith}
use mir.Facts.{to_z-of_z}
use Rattle.std.proofs.lemmas.Result.{err_from_is_err_and}
use Rattle.number_division.proofs.Nearest.{refused, stays, lowered, raised, remainder-fits, negative-test}
use Rattle.number_division.proofs.divide_nearest.Goals as goal

pub returns-in_err-q : goal.returns-in_err-q
returns-in_err-q c =
    let p = err_from_is_err_and c.from_residual.result c.from_residual.ensures.1 in
    let d = simp (to_z-of_z c.ranges.a, to_z-of_z c.ranges.b) at c.in_err-q.ensures in
    rw (p.1, p.2) (refused c.args.a c.args.b _ c.ranges.a d)

pub overflow_sub-result : goal.overflow_sub-result
overflow_sub-result c = grind (arith, to_z-of_z, remainder-fits, negative-test, lowered)

pub overflow_add-result : goal.overflow_add-result
overflow_add-result c = grind (arith, to_z-of_z, remainder-fits, negative-test, raised)

pub returns-then-a-b : goal.returns-then-a-b
returns-then-a-b c = grind (arith, to_z-of_z, remainder-fits, negative-test, lowered)

pub returns-else-a-b : goal.returns-else-a-b
returns-else-a-b c = grind (arith, to_z-of_z, remainder-fits, negative-test, raised)

pub returns-else-rounds_up : goal.returns-else-rounds_up
returns-else-rounds_up c = grind (arith, to_z-of_z, remainder-fits, stays)
