-- What the bytes of an observation memory stand for, by record and by mark.
use Prim.Native.Nat.{ℕ, zero, suc, ◌-◌, ◌<◌, ◌≤◌}
use native.Mathlib.Nat.{zero-add, le_trans, le_of_eq}
use native.Mathlib.Omega.{arith}
use mathlib.Core.Path.{◌≡◌, refl, sym, ap, ap₂, ◌∙◌}
use mathlib.Core.Bool.{false}
use mathlib.Core.List.{List, ◌++◌}
use lib.ListN.{length, get_or, replicate, replicate-append-replicate, get_or-eq_default}
use Rattle.rules.specs.Sizes.{name_count, cell_count, observation_length, blocks_length}
use Rattle.rules.specs.Words.{digits}
use Rattle.rules.specs.Observation.{record_of, empty_observation, is_marked}
use Rattle.rules.specs.Layout.{recorded_at, mark_at, observation_of, observation_image}
use Rattle.rules.specs.Layout.{recorded_bytes, mark_bytes}
use Rattle.rules.specs.declared.{Recorded.Recorded}
use Rattle.rules.proofs.Lists.Rows.{length-tabulate, get_d_tabulate, flat-all}

pub record-count : (l : List ℕ) → length (observation_of l).blocks ≡ name_count
unfolding observation_of
record-count l = length-tabulate name_count 0 (recorded_at l)

pub mark-count : (l : List ℕ) → length (observation_of l).marks ≡ cell_count
unfolding observation_of
mark-count l = length-tabulate cell_count 0 (mark_at l)

-- ---- records
record-in : (l : List ℕ) (k : ℕ) → k < name_count
    → recorded_at l k ≡ get_or (observation_of l).blocks k Recorded.Dead
unfolding observation_of
record-in l k h = sym (get_d_tabulate name_count 0 k (recorded_at l) Recorded.Dead h ∙ ap (recorded_at l) (zero-add k))

pub record-of-name : (l : List ℕ) (k : ℕ) → 0 < k → k ≤ name_count
    → recorded_at l (k - 1) ≡ record_of (observation_of l) k
record-of-name l zero a b = absurd (omega arith)
record-of-name l (suc k) a b = ap (recorded_at l) (before k) ∙ record-in l k b
  where
    before : (k : ℕ) → suc k - 1 ≡ k
    before k = omega arith

pub record-past : (l : List ℕ) (k : ℕ) → name_count < k → Recorded.Dead ≡ record_of (observation_of l) k
record-past l zero h = absurd (omega arith)
record-past l (suc k) h =
    let p : length (observation_of l).blocks ≤ k = omega (arith, record-count l) in
    sym (get_or-eq_default (observation_of l).blocks Recorded.Dead p)

pub ruleset records = (record-of-name, record-past)

-- ---- marks
pub mark-in : (l : List ℕ) (i : ℕ) → i < cell_count → mark_at l i ≡ is_marked (observation_of l) i
unfolding observation_of
mark-in l i h = sym (get_d_tabulate cell_count 0 i (mark_at l) false h ∙ ap (mark_at l) (zero-add i))

pub mark-past : (l : List ℕ) (i : ℕ) → cell_count ≤ i → false ≡ is_marked (observation_of l) i
mark-past l i h = sym (get_or-eq_default (observation_of l).marks false (le_trans (le_of_eq (mark-count l)) h))

pub ruleset marks = (mark-in, mark-past)

-- ---- the bytes at the start
pub empty-image : observation_image empty_observation ≡ replicate observation_length 0
unfolding observation_image recorded_bytes digits
empty-image =
    ap₂ (λ (x y : List ℕ). x ++ y) (flat-all recorded_bytes Recorded.Unused 8 name_count refl)
    (flat-all mark_bytes false 1 cell_count refl)
    ∙ replicate-append-replicate blocks_length cell_count 0
