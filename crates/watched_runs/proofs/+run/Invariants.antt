-- The measures, by the record number. In a run's loop what remains is at the record that the loop has come to; in a
-- while's loop, at the while itself, by the fuel that is left.
use Rattle.std.proofs.Common.{◌+◌, ◌*◌}
use Rattle.evaluation.specs.State.{variables_of}
use Rattle.watched_statements.specs.Watching.{lent, Beside}
use Rattle.watched_runs.proofs.MemberLaws.{Rest, Remaining, height}
use Rattle.watched_runs.proofs.+run.Given as goal

abbrev pub decreases-branch : goal.decreases-branch
decreases-branch l = l.n * 4 + 1

abbrev pub decreases-enclose : goal.decreases-enclose
decreases-enclose l = l.n * 4 + 1

abbrev pub decreases-repeat : goal.decreases-repeat
decreases-repeat l = l.n * 4 + 1

abbrev pub decreases-run : goal.decreases-run
decreases-run l = l.n * 4 + 3

abbrev pub decreases-run_inside : goal.decreases-run_inside
decreases-run_inside l = l.n * 4

abbrev pub invariant-run-loop-next : goal.invariant-run-loop-next
invariant-run-loop-next l = record {
  remaining : Remaining l.table l.n (variables_of l.variables) (lent l.fn.mem l.fn.obs l.fn.temporaries) l.fuel l.next
      (lent l.mem l.obs l.temporaries) l.left;
  beside : Beside l.mem l.obs l.counts l.owners;
}

abbrev pub decreases-run-loop-next : goal.decreases-run-loop-next
decreases-run-loop-next l = height l.next

abbrev pub invariant-repeat-loop-left : goal.invariant-repeat-loop-left
invariant-repeat-loop-left l = record {
  remaining : Rest l.table l.n (variables_of l.variables) (lent l.fn.mem l.fn.obs l.fn.temporaries) l.fuel l.n
      (lent l.mem l.obs l.temporaries) l.left;
  beside : Beside l.mem l.obs l.counts l.owners;
}

abbrev pub decreases-repeat-loop-left : goal.decreases-repeat-loop-left
decreases-repeat-loop-left l = l.left
