-- Where a block starts.
use Rattle.std.specs.Prelude.{ℕ, ◌≡◌}
use Rattle.rules.specs.Memory.{Memory, block_of, recorded_of}
use Rattle.rules.specs.declared.{Recorded.Recorded}

-- a name's block, where it is live, has the cells from i on
abbrev pub StartsAt : Memory → ℕ → ℕ → Type 0
StartsAt m name i = (first n : ℕ) → recorded_of (block_of m name) ≡ Recorded.Live first n → i ≡ first
