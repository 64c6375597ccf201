use Rattle.rules.specs.Layout.{memory_of}
use Rattle.memory_blocks.proofs.Runs.{run-of-none}
use Rattle.memory_blocks.proofs.free_run.Goals as goal

pub returns-then-n-eq0 : goal.returns-then-n-eq0
returns-then-n-eq0 c = rw c.if-n-eq0.true (run-of-none (memory_of c.args.mem.now))
