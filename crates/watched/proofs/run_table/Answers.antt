use Rattle.std.proofs.Common.{◌*◌}
use lib.ListN.{replicate}
use Rattle.rules.specs.Sizes.{target_limit}
use Rattle.watched.proofs.EntryLaws.{table-length, ready-start, same-program}
use Rattle.watched.proofs.run_table.Goals as goal

pub copy-requires : goal.copy-requires
copy-requires c = table-length c.args.table.now c.args.table.now c.requires.0

pub run_from_start-requires : goal.run_from_start-requires
run_from_start-requires c =
    rw c.copy.ensures (ready-start c.args.table.now (replicate (target_limit * 16) 0) c.requires.0, c.requires.1)

pub returns-clause-outcome : goal.returns-clause-outcome
returns-clause-outcome c =
    rw (← same-program c.args.table.now (replicate (target_limit * 16) 0) c.requires.0, ← c.copy.ensures)
    c.run_from_start.ensures.outcome
