-- After i turns the first i bytes are in place.
use Rattle.std.proofs.Common.{◌≡◌, ◌≤◌, length}
use lib.Seq.{paste}
use Rattle.run_buffers.proofs.copy.Given as goal

abbrev pub invariant-loop-i : goal.invariant-loop-i
invariant-loop-i l = record {
  in_range : l.i ≤ length l.from;
  same_length : length l.to ≡ length l.fn.to;
  copied : l.to ≡ paste l.fn.to 0 l.from l.i;
}
