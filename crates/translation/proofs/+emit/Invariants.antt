-- The record number falls, or the call goes from the dispatcher to its function, or from the let to its inside.
use Rattle.std.proofs.Common.{◌+◌, ◌*◌}
use Rattle.translation.proofs.+emit.Given as goal

abbrev pub decreases-emit_branch : goal.decreases-emit_branch
decreases-emit_branch l = l.n * 3 + 1

abbrev pub decreases-emit_inside : goal.decreases-emit_inside
decreases-emit_inside l = l.n * 3

abbrev pub decreases-emit_let : goal.decreases-emit_let
decreases-emit_let l = l.n * 3 + 1

abbrev pub decreases-emit_repeat : goal.decreases-emit_repeat
decreases-emit_repeat l = l.n * 3 + 1

abbrev pub decreases-emit_statement : goal.decreases-emit_statement
decreases-emit_statement l = l.n * 3 + 2

abbrev pub decreases-emit_then : goal.decreases-emit_then
decreases-emit_then l = l.n * 3 + 1
