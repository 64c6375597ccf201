use Rattle.std.proofs.Common.{◌*◌, sym, ap}
use lib.ListN.{replicate}
use Rattle.rules.specs.Sizes.{target_limit}
use Rattle.rules.specs.Trees.{Statement}
use Rattle.rules.specs.Plain.{run, start_variables}
use Rattle.rules.specs.Layout.{memory_of}
use Rattle.plain_runs.proofs.Laws.{ends-is}
use Rattle.plain.proofs.EntryLaws.{table-length, ready-start, same-program}
use Rattle.plain.proofs.run_table.Goals as goal

pub copy-requires : goal.copy-requires
copy-requires c = table-length c.args.table.now c.args.table.now c.requires.0

pub run_from_start-requires : goal.run_from_start-requires
run_from_start-requires c =
    rw c.copy.ensures (ready-start c.args.table.now (replicate (target_limit * 16) 0) c.requires.0, c.requires.1)

pub returns-clause-outcome : goal.returns-clause-outcome
returns-clause-outcome c =
    let T = c.args.table.now in
    ends-is
    (ap (λ (x : Statement). run x start_variables (memory_of c.args.mem.now) c.args.fuel)
    (sym (same-program T (replicate (target_limit * 16) 0) c.requires.0)))
    (rw c.copy.ensures at c.run_from_start.ensures.outcome)
