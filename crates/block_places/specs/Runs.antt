-- A search among places.
use Rattle.std.specs.Prelude.{ℕ, ◌≡◌, ◌<◌, ◌≤◌, Bool, true, false, Option, MatchOption}

-- the first place from i on, below e, that does not pass, if one does not
abbrev pub FirstHeld : (ℕ → Bool) → ℕ → ℕ → Option ℕ → Type 0
FirstHeld p i e found =
    MatchOption found ((k : ℕ) → i ≤ k → k < e → p k ≡ true)
    (λ j. (i ≤ j) × (j < e) × (p j ≡ false) × ((k : ℕ) → i ≤ k → k < j → p k ≡ true))
