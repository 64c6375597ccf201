-- A place that a live block has is left by the block's end: one law for the searches in both memories.
use Prim.Native.Nat.{ℕ, zero, suc, ◌+◌, ◌≤◌, ◌<◌}
use native.Mathlib.Omega.{arith}
use mathlib.Core.Path.{◌≡◌, refl, sym}
use mathlib.Core.Bool.{Bool, true, false, true≢false}
use mathlib.Core.List.{List}
use Rattle.rules.specs.Types.{Recorded}
use Rattle.rules.specs.Sizes.{cell_count}
use Rattle.rules.specs.Memory.{recorded_of, named}
use Rattle.rules.specs.Observation.{covers}
use Rattle.rules.specs.Layout.{block_from, recorded_from}
use Rattle.rules.proofs.Lists.RunLaws.{Held}
use Rattle.rules.proofs.Memory.MemoryLaws.{Covering, inside, below, above, covering, covers-inside, coverage}
use Rattle.rules.proofs.Memory.MemoryLaws.{coverage-named}

-- no place that a block covers passes
module _ (l : List Recorded) (p : ℕ → Bool) (apart : (j : ℕ) → j < cell_count → 1 ≤ coverage l j → p j ≡ false) where
  pub held-to-end : (k i first n : ℕ) → named l k Recorded.Dead ≡ Recorded.Live first n → first + n ≤ cell_count
      → covers (Recorded.Live first n) i ≡ true → Held p i (first + n)
  held-to-end k i first n e within h = go (covering first n i) h
    where
      covered : (j : ℕ) → first ≤ j → j < first + n → 1 ≤ coverage l j
      covered j a b =
          let c = rw (e, covers-inside first n j a b) at (coverage-named l k j) in
          omega (arith, c)

      go : {b : Bool} → Covering first n i b → b ≡ true → Held p i (first + n)
      go (inside a b) d = record {
        further = b;
        within = within;
        held = λ j x y. apart j (omega arith) (covered j (omega arith) y);
      }
      go (below a) d = absurd (true≢false (sym d))
      go (above a) d = absurd (true≢false (sym d))

-- a record that covers a place is a live block's, whatever its state: of the observation memory and of the execution
-- memory
module _ (first n i : ℕ) where
  pub record-covers : (state : ℕ) → covers (recorded_from state first n) i ≡ true
      → recorded_from state first n ≡ Recorded.Live first n
  record-covers zero h = absurd (true≢false (sym h))
  record-covers (suc zero) h = refl
  record-covers (suc (suc state)) h = absurd (true≢false (sym h))

  pub block-covers : (state : ℕ) → covers (recorded_of (block_from state first n)) i ≡ true
      → recorded_of (block_from state first n) ≡ Recorded.Live first n
  block-covers zero h = absurd (true≢false (sym h))
  block-covers (suc zero) h = refl
  block-covers (suc (suc zero)) h = refl
  block-covers (suc (suc (suc state))) h = absurd (true≢false (sym h))
