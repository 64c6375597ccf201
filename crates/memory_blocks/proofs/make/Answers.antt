-- Where a name was found, and where cells for the block were.
use Rattle.std.proofs.Common.{◌∙◌, sym, arith}
use Rattle.rules.specs.Layout.{memory_of}
use Rattle.rules.proofs.Lists.RunLaws.{run-bound}
use Rattle.memory_counts.proofs.CountLaws.{counted_is}
use Rattle.memory_blocks.proofs.Runs.{name-bound, room-found, counted-found}
use Rattle.memory_blocks.proofs.make.Goals as goal

pub overflow_cast-first : goal.overflow_cast-first
overflow_cast-first c =
    let run = sym c.free_run.ensures ∙ c.in_ok-first.ensures.ok_part in
    record { fits = omega (arith, run-bound _ c.args.n _ run) }

pub overflow_cast-n : goal.overflow_cast-n
overflow_cast-n c =
    let run = sym c.free_run.ensures ∙ c.in_ok-first.ensures.ok_part in
    record { fits = omega (arith, run-bound _ c.args.n _ run) }

pub place-requires : goal.place-requires
place-requires c =
    let name = name-bound (memory_of c.args.mem.now) _
    (c.requires.next ∙ sym c.next_name.ensures ∙ c.in_ok-k.ensures.ok_part) in
    let run = sym c.free_run.ensures ∙ c.in_ok-first.ensures.ok_part in
    (run-bound _ c.args.n _ run, name.0, name.1)

pub take-requires : goal.take-requires
take-requires c =
    let name = c.requires.next ∙ sym c.next_name.ensures ∙ c.in_ok-k.ensures.ok_part in
    let run = sym c.free_run.ensures ∙ c.in_ok-first.ensures.ok_part in
    room-found c.args.purpose c.args.n c.requires name run

pub returns-clause-counts : goal.returns-clause-counts
returns-clause-counts c =
    let name = c.requires.next ∙ sym c.next_name.ensures ∙ c.in_ok-k.ensures.ok_part in
    let run = sym c.free_run.ensures ∙ c.in_ok-first.ensures.ok_part in
    counted_is c.place.ensures.view c.take.ensures (counted-found c.args.purpose c.args.n c.requires name run)
