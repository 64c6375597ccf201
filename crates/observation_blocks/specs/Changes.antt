-- What bytes stand for after a change, and the changes of a record and of marks.
use Rattle.std.specs.Prelude.{ℕ, ◌≡◌, Bool, true, List, set}
use Rattle.rules.specs.Memory.{fill, set_named}
use Rattle.rules.specs.Observation.{Observation}
use Rattle.rules.specs.Layout.{observation_of, observation_image}
use Rattle.rules.specs.declared.{Recorded.Recorded}

-- bytes that now stand for o, and are exactly its bytes if they were exact before
pub record ObservationBecomes (entry exit : List ℕ) (o : Observation) : Type 0 where
  pub view : observation_of exit ≡ o
  pub exact : (entry ≡ observation_image (observation_of entry)) → exit ≡ observation_image (observation_of exit)

-- ---- changes of the memory
-- the record of name k is b
abbrev pub with_named : Observation → ℕ → Recorded → Observation
with_named o k b = record { blocks = set_named o.blocks k b; marks = o.marks }

-- n marks from first on are b
abbrev pub mark_range : Observation → ℕ → ℕ → Bool → Observation
mark_range o first n b = record { blocks = o.blocks; marks = fill o.marks first n b }

-- mark i is 1
abbrev pub with_mark : Observation → ℕ → Observation
with_mark o i = record { blocks = o.blocks; marks = set o.marks i true }
