-- The memory that the run leaves has its length.
use Rattle.std.proofs.Common.{◌≡◌, length, sym, ◌∙◌}
use Rattle.rules.specs.Sizes.{memory_length}
use Rattle.memory_counts.proofs.CountLaws.{counted_start, free-fits}
use Rattle.run_buffers.proofs.EntryLaws.{put_all, memory-whole}
use Rattle.plain.proofs.EntryLaws.{exit_length, entry-ends}
use Rattle.plain.proofs.run_inputs.Goals as goal

pub run_table-ended-requires : goal.run_table-ended-requires
run_table-ended-requires c = (
  c.requires.0,
  counted_start c.args.inputs.now c.start.new.mem c.requires.1 c.start.ensures c.start-counts.ensures,
)

pub overflow_cast-counts : goal.overflow_cast-counts
overflow_cast-counts c = free-fits c.run_table-ended.ensures.counts

pub returns : goal.returns
returns c =
    let a = c.args in
    let i = a.inputs.now in
    let e = c.run_table-ended in
    let l = e.new.mem in
    let whole : length l ≡ memory_length =
    exit_length i c.requires.1 c.start.new.mem c.start.ensures a.table.now a.fuel e.result l e.ensures.outcome
    c.requires.0 in
    entry-ends i c.requires.1 c.start.new.mem c.start.ensures a.table.now a.fuel e.result l e.ensures.outcome
    e.new.counts.free c.answer_of.result c.copy.new.to e.ensures.counts.free c.answer_of.ensures
    (c.copy.ensures ∙ put_all a.memory.now l (memory-whole a.memory.now c.requires.2 ∙ sym whole))
