-- The inputs that have come are in their cells, and the others are left.
use Rattle.std.proofs.Common.{◌≡◌, ◌*◌, ◌≤◌, length, drop}
use Rattle.std.specs.Iterator.Adapters.{enumerate_source, enumerate_count}
use Rattle.std.specs.Slice.Iter.{chunks_exact_rest, chunks_exact_size}
use Rattle.rules.specs.Layout.{memory_of}
use Rattle.memory_cells.specs.Changes.{Becomes}
use Rattle.memory_start.specs.Starting.{with_inputs}
use Rattle.memory_start.proofs.put_inputs.Given as goal

abbrev pub invariant-loop-i : goal.invariant-loop-i
invariant-loop-i l = record {
  size : chunks_exact_size (enumerate_source l.i-iterator) ≡ 8;
  within : enumerate_count l.i-iterator * 8 ≤ length l.inputs;
  left : chunks_exact_rest (enumerate_source l.i-iterator) ≡ drop (enumerate_count l.i-iterator * 8) l.inputs;
  put : Becomes l.fn.mem l.mem (with_inputs (memory_of l.fn.mem) l.inputs (enumerate_count l.i-iterator));
}
