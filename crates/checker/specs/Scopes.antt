-- Variables in scope as the bits of a number, and what is noted below a record.
use Rattle.std.specs.Prelude.{ℕ, zero, suc, ◌/◌, ◌%◌, ◌<◌, ◌≤◌, Bool, true, false, not, cond, List, ◌≡◌, eqb}
use Rattle.std.specs.Prelude.{ltb, leb, length, get_or, None, is_err}
use Rattle.rules.specs.Sizes.{temporary_count}
use Rattle.rules.specs.Records.{fields_of, record_count, kind_of, record_at}
use Rattle.rules.specs.Kinds.{Language, record_limit}
use Rattle.rules.specs.Checker.{lowest_record, record_fault, times_child_of, shape_fault, scope_fault}
use Rattle.rules.specs.Checker.{is_term_or_predicate, level_below, position_in, highest_named}
use Rattle.checker.specs.Notes.{noted}
use Rattle.rules.specs.Types.{Search}

unfoldable pub bit : ℕ → ℕ → Bool
bit s zero = eqb (s % 2) 1
bit s (suc x) = bit (s / 2) x

-- a variable used out of scope, or let while in scope, of a record of kind k with mark v
abbrev pub out_of_scope : ℕ → ℕ → ℕ → Bool
out_of_scope k v s =
    elim (eqb k 10) [
      | true ↦ not (bit s v)
      | false ↦ elim (eqb k 47) [ true ↦ bit s v | false ↦ false ]
    ]

-- after record n there is f of its children, and what there was of the others
pub record Given (l : Language) (t : List ℕ) (n : ℕ) (f : ℕ → ℕ) (before after : List ℕ) : Type 0 where
  pub size : length after ≡ length before
  pub values : (j : ℕ) → j < length before
      → get_or after j 0 ≡ cond (ltb 0 (times_child_of l t n j)) (f j) (get_or before j 0)

-- after record n scope s is noted of its children
pub record Noted (l : Language) (t : List ℕ) (n s : ℕ) (before after : List ℕ) : Type 0 where
  pub size : length after ≡ length before
  pub values : (j : ℕ) → j < length before → get_or after j 0 ≡ noted s (times_child_of l t n j) (get_or before j 0)

-- rules 1 and 2 are kept
pub record Sized (l : Language) (t : List ℕ) : Type 0 where
  pub some : 0 < record_count t
  pub few : record_count t ≤ record_limit l

-- rules 1 to 5 are kept
pub record Formed (l : Language) (t : List ℕ) : Type 0 where
  pub sized : Sized l t
  pub records : lowest_record t (λ n. is_err (record_fault l t n)) ≡ None

-- rules 1 to 6 are kept
pub record Kept (l : Language) (t : List ℕ) : Type 0 where
  pub formed : Formed l t
  pub shapes : lowest_record t (shape_fault l t) ≡ None

-- a note for each record of a table that keeps 1 to 5, nothing being noted yet
pub record Ready (l : Language) (t notes : List ℕ) : Type 0 where
  pub formed : Formed l t
  pub size : record_count t < length notes
  pub nothing : (j : ℕ) → get_or notes j 0 ≡ 0

-- the lowest records that break 6 and 7, the second being right where no record breaks 6
pub record Found (l : Language) (t : List ℕ) (misshapen hidden : Search) : Type 0 where
  pub formed : Formed l t
  pub shapes : lowest_record t (shape_fault l t) ≡ misshapen
  pub scopes : Kept l t → lowest_record t (scope_fault l t) ≡ hidden

-- the level of child j of record n, which is at level v
abbrev pub child_level : List ℕ → ℕ → ℕ → ℕ → ℕ
child_level t n v j = level_below (kind_of t n) (position_in (fields_of (record_at t n)) j) v

-- a term or predicate of kind k at level n that names a temporary above 63
abbrev pub too_deep : ℕ → ℕ → Bool
too_deep k n = elim (is_term_or_predicate k) [ true ↦ leb temporary_count (highest_named k n) | false ↦ false ]
