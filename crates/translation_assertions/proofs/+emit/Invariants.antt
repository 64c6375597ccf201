-- The record number falls, a dispatcher's call counting half.
use Rattle.std.proofs.Common.{suc, ◌*◌}
use Rattle.translation_assertions.proofs.+emit.Given as goal

abbrev pub decreases-emit_binary : goal.decreases-emit_binary
decreases-emit_binary l = l.n * 2

abbrev pub decreases-emit_both : goal.decreases-emit_both
decreases-emit_both l = l.n * 2

abbrev pub decreases-emit_either : goal.decreases-emit_either
decreases-emit_either l = l.n * 2

abbrev pub decreases-emit_test : goal.decreases-emit_test
decreases-emit_test l = suc (l.n * 2)

abbrev pub decreases-emit_unary : goal.decreases-emit_unary
decreases-emit_unary l = l.n * 2
