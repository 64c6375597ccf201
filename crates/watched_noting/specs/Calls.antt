-- What the statements on the observation memory ask of it, and what no mark's having an owner is.
use Rattle.std.specs.Prelude.{ℕ, suc, cond, ◌⊎◌, ◌≡◌, eqb, replicate}
use Rattle.rules.specs.Sizes.{cell_count}
use Rattle.rules.specs.Observation.{Observation, Noted, store_block, delete_block}
use Rattle.rules.specs.Watched.{Temporaries, held_in, called_on, called_on_two}
use Rattle.rules.specs.declared.{MarkOwners.MarkOwners}

-- 68 records the block that temporary n points to, the next being its length, 69 deletes that block
abbrev pub IsNote : ℕ → Type 0
IsNote k = (k ≡ 68) ⊎ (k ≡ 69)

abbrev pub note_of : ℕ → Temporaries → ℕ → Observation → Noted
note_of k τ n o =
    cond (eqb k 68) (called_on_two (held_in τ n) (held_in τ (suc n)) (store_block o))
    (called_on (held_in τ n) (delete_block o))

-- before a run no mark has an owner
abbrev pub no_owners : MarkOwners
no_owners = record { names = replicate cell_count 0; lowest = 0 }
