-- Notes and levels before any record is passed.
use Rattle.rules.specs.Kinds.{Language, source}
use Prim.Native.Nat.{ℕ, ◌<◌}
use native.Mathlib.Omega.{arith}
use native.Mathlib.Decide.{dec_lt}
use mathlib.Core.List.{List}
use mathlib.Core.Path.{◌≡◌}
use lib.ListN.{get_or, replicate, length-replicate, get_or-replicate, get_or-eq_default}
use Rattle.rules.specs.Records.{record_count}
use Rattle.checker.specs.Scopes.{Kept}
use Rattle.checker.proofs.DescentLaws.{passed-of, Known, known_start, Fresh}
use Rattle.checker.proofs.RightLaws.{Levelled, levelled-last}

pub levels-start : (t : List ℕ) → Kept source t → (k : ℕ) → record_count t < k
    → Known (Levelled t) source t (record_count t) (replicate k 0)
levels-start t kept k room =
    known_start (Levelled t) source t (replicate k 0) (omega (arith, length-replicate {A = ℕ} k 0))
    (levelled-last t (passed-of source t kept) (get_or (replicate k 0) (record_count t) 0)
    (get_or-replicate k (record_count t) 0 0 room))

nothing-noted : (k j : ℕ) → ◌≡◌ {A = ℕ} (get_or (replicate k 0) j 0) 0
nothing-noted k j = go (dec_lt j k)
  where
    go : Dec (j < k) → ◌≡◌ {A = ℕ} (get_or (replicate k 0) j 0) 0
    go (yes p) = get_or-replicate k j 0 0 p
    go (no p) = get_or-eq_default (replicate k 0) 0 (omega (arith, length-replicate {A = ℕ} k 0))

pub fresh_start : (l : Language) (t : List ℕ) (n k : ℕ) → Fresh l t n (replicate k 0)
fresh_start l t n k m j p q = nothing-noted k j
