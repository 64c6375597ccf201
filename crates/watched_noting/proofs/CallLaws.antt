-- What is noted, by the kind of the record.
use Prim.Native.Nat.{ℕ}
use mathlib.Core.Logic.{◌≢◌, inl, inr}
use mathlib.Core.Path.{◌≡◌}
use Rattle.watched_noting.specs.Calls.{IsNote}

-- the last kind is what is left
pub note-last : {k : ℕ} → IsNote k → k ≢ 68 → k ≡ 69
note-last (inl e) a = absurd (a e)
note-last (inr e) a = e
