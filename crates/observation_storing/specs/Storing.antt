-- Storing under a name alone.
use Rattle.std.specs.Prelude.{ℕ}
use Rattle.rules.specs.Observation.{Observation, Noted, mark_run, store_at}
use Rattle.rules.specs.declared.{Recorded.Recorded}

-- a block of n marks under name k, which is unused
abbrev pub store_new : Observation → ℕ → ℕ → Noted
store_new o k n = store_at o k n Recorded.Unused (mark_run o n)
