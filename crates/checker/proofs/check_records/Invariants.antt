-- The records before n keep rules 3 to 5.
use Rattle.checker_forms.specs.Forms.{Before}
use Rattle.checker.proofs.check_records.Given as goal

abbrev pub invariant-loop-n : goal.invariant-loop-n
invariant-loop-n l = Before l.language l.table l.n
