use Rattle.memory_counts.proofs.CountLaws.{counted_start, free-fits}
use Rattle.watched.proofs.EntryLaws.{entry-ends}
use Rattle.watched.proofs.run_memories.Goals as goal

pub run_table-ended-requires : goal.run_table-ended-requires
run_table-ended-requires c = (
  c.requires.0,
  record {
    counted = counted_start c.args.inputs.now c.args.mem.now c.requires.1 c.requires.2 c.start-counts.ensures;
    owned = c.start_observation.ensures.owners;
  },
)

pub overflow_cast-counts : goal.overflow_cast-counts
overflow_cast-counts c = free-fits c.run_table-ended.ensures.counts

pub returns : goal.returns
returns c =
    let a = c.args in
    let r = c.run_table-ended in
    rw c.answer_of.ensures
    (entry-ends a.inputs.now c.requires.1 a.mem.now c.start_observation.new.obs c.requires.2
    c.start_observation.ensures.observation a.table.now a.fuel r.ensures.outcome r.ensures.counts.free)
