-- The measures, by the record number. In a run's loop what remains is at the record that the loop has come to; in a
-- while's loop, at the while itself, by the fuel that is left.
use Rattle.std.proofs.Common.{◌+◌, ◌*◌}
use Rattle.std.specs.Prelude.{Some}
use Rattle.rules.specs.Nodes.{statement_at}
use Rattle.rules.specs.Plain as plain
use Rattle.rules.specs.Layout.{memory_of}
use Rattle.memory_counts.specs.Counted.{Counted}
use Rattle.evaluation.specs.State.{variables_of}
use Rattle.plain_runs.proofs.ReadyLaws.{left_size}
use Rattle.plain_runs.proofs.MemberLaws.{Leads, Left}
use Rattle.plain_runs.proofs.+run.Given as goal

abbrev pub decreases-branch : goal.decreases-branch
decreases-branch l = l.n * 4 + 1

abbrev pub decreases-enclose : goal.decreases-enclose
decreases-enclose l = l.n * 4 + 1

abbrev pub decreases-repeat : goal.decreases-repeat
decreases-repeat l = l.n * 4 + 1

abbrev pub decreases-run : goal.decreases-run
decreases-run l = l.n * 4 + 3

abbrev pub decreases-run_inside : goal.decreases-run_inside
decreases-run_inside l = l.n * 4

abbrev pub decreases-run_single : goal.decreases-run_single
decreases-run_single l = l.n * 4 + 2

abbrev pub invariant-run-loop-mem : goal.invariant-run-loop-mem
invariant-run-loop-mem l = record {
  left : Left l.table l.n (variables_of l.variables) l.fn.mem l.fn.progress.fuel (Some l.at) l.mem l.progress.fuel;
  counted : Counted (memory_of l.mem) l.counts;
}

abbrev pub decreases-run-loop-mem : goal.decreases-run-loop-mem
decreases-run-loop-mem l = left_size (Some l.at)

abbrev pub invariant-repeat-loop-progress : goal.invariant-repeat-loop-progress
invariant-repeat-loop-progress l = record {
  leads : Leads
      (plain.run (statement_at l.table l.n) (variables_of l.variables) (memory_of l.fn.mem) l.fn.progress.fuel)
      l.fn.mem
      (plain.run (statement_at l.table l.n) (variables_of l.variables) (memory_of l.mem) l.progress.fuel) l.mem;
  counted : Counted (memory_of l.mem) l.counts;
}

abbrev pub decreases-repeat-loop-progress : goal.decreases-repeat-loop-progress
decreases-repeat-loop-progress l = l.progress.fuel
