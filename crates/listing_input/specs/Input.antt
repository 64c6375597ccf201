-- What is kept of an input of any length.
use Rattle.std.specs.Prelude.{ℕ, ◌+◌, ◌-◌, ◌%◌, ◌≤◌, ◌≡◌, true, false, List, ◌++◌, ltb, length, take}
use Rattle.rules.specs.Words.{put}
use Rattle.listing_text.specs.Text.{listed}

-- 257 records, one too many: a longer input is refused, "1 length 0 or no multiple of 16. 2 too many records", before
-- any byte of it is looked at, so of its length only what is over a multiple of 16 counts
abbrev pub too_many : ℕ
too_many = 4112

abbrev pub kept_length : ℕ → ℕ
kept_length n = elim (ltb n too_many) [ true ↦ n | false ↦ too_many + n % 16 ]

-- the bytes kept, where `count` are already and more come
abbrev pub kept_bytes : List ℕ → ℕ → List ℕ → List ℕ
kept_bytes kept count more = put kept count (take (too_many - count) more)

-- `count` bytes are kept of the whole input
pub record Kept (whole kept : List ℕ) (count : ℕ) : Type 0 where
  pub counted : count ≡ kept_length (length whole)
  pub bytes : length whole ≤ too_many → take (length whole) kept ≡ whole

-- what is kept stays kept, with more behind it
abbrev pub KeepsMore : List ℕ → ℕ → List ℕ → List ℕ → ℕ → Type 0
KeepsMore kept count more after next = (whole : List ℕ) → Kept whole kept count → Kept (whole ++ more) after next

-- a length and an output that are those of the whole input's listing
abbrev pub ListsInput : List ℕ → ℕ → List ℕ → ℕ → List ℕ → Type 0
ListsInput kept count out r after =
    (whole : List ℕ) → Kept whole kept count → (r ≡ (listed whole out).length) × (after ≡ (listed whole out).out)
