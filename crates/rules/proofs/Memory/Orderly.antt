-- What follows from the invariant, after every run: free cells and live lengths make 1,024, live blocks are apart,
-- a cell's owner is its block, names are given in rising order, and none twice.
use Prim.Native.Nat.{ℕ, zero, suc, ◌+◌, ◌≤◌, ◌<◌}
use native.Mathlib.Omega.{arith}
use native.Mathlib.Decide.{ℕ_discrete, dec_lt}
use mathlib.Core.Path.{◌≡◌, refl, sym, ap, ◌∙◌}
use mathlib.Core.Logic.{◌≢◌}
use mathlib.Core.Bool.{Bool, true, false, true≢false}
use Rattle.rules.specs.Types.{Block, Recorded, Cell}
use Rattle.rules.specs.Sizes.{name_count, cell_count}
use Rattle.rules.specs.Trees.{Statement}
use Rattle.rules.specs.TargetTrees.{TargetStatement}
use Rattle.rules.specs.Memory.{Memory, recorded_of, named, block_of, cell_of, is_unused, Use, made, make_block}
use Rattle.rules.specs.Memory.{count_free}
use Rattle.rules.specs.Evaluation.{Variables}
use Rattle.rules.specs.Observation.{covers}
use Rattle.rules.specs.Flow.{ending}
use Rattle.rules.specs.Plain.{run}
use Rattle.rules.specs.Watched.{WatchedState, watch}
use Rattle.rules.proofs.Memory.MemoryLaws.{named-map, Covering, inside, below, above, covering, covers-inside}
use Rattle.rules.proofs.Memory.MemoryLaws.{not-twice, coverage}
use Rattle.rules.proofs.Memory.Invariant.{occupied, at_most_one, records_of, Owned, Invariant, becomes-given}
use Rattle.rules.proofs.Memory.Invariant.{Onward}
use Rattle.rules.proofs.Memory.BlockChanges.{covered-once}
use Rattle.rules.proofs.Memory.Changes.{onward-made}
use Rattle.rules.proofs.Memory.PlainKept.{plain-onward}
use Rattle.rules.proofs.Memory.WatchedKept.{watched-onward}
use Rattle.rules.proofs.Memory.Totals.{live_length, count_occupied, total, total-occupied}

-- no cell lies in two live blocks
two-covers : (m : Memory) → Invariant m → (j k i : ℕ) → j ≢ k → covers (recorded_of (block_of m j)) i ≡ true
    → covers (recorded_of (block_of m k)) i ≡ true → ⊥
two-covers m y j k i d e e₁ =
    not-twice (records_of m) (λ i₁. omega (arith, y.cover i₁, at_most_one (cell_of m i₁))) j k i d
    (at_name j ∙ e) (at_name k ∙ e₁)
  where
    at_name : (k : ℕ) → covers (named (records_of m) k Recorded.Dead) i ≡ covers (recorded_of (block_of m k)) i
    at_name k = ap (λ b. covers b i) (named-map recorded_of m.blocks k Block.Dead)

-- a live block covers each of its cells
covers-live : (m : Memory) (k first n : ℕ) → recorded_of (block_of m k) ≡ Recorded.Live first n → (i : ℕ) → first ≤ i
    → i < first + n → covers (recorded_of (block_of m k)) i ≡ true
covers-live m k first n e i p q = ap (λ b. covers b i) e ∙ covers-inside first n i p q

pub apart : (m : Memory) → Invariant m → (j k first n first₁ n₁ : ℕ) → j ≢ k
    → recorded_of (block_of m j) ≡ Recorded.Live first n → recorded_of (block_of m k) ≡ Recorded.Live first₁ n₁
    → (i : ℕ) → first ≤ i → i < first + n → first₁ ≤ i → i < first₁ + n₁ → ⊥
apart m y j k s n s₁ n₁ d e e₁ i p q p₁ q₁ =
    two-covers m y j k i d (covers-live m j s n e i p q) (covers-live m k s₁ n₁ e₁ i p₁ q₁)

-- the cell is not free, and this name is its owner
abbrev pub HasOwner : ℕ → Cell → Type 0
HasOwner k Cell.Free = ⊥
HasOwner k (Cell.Holds o v) = o ≡ k

-- every cell of a live block has that block's name as owner
pub owner : (m : Memory) → Invariant m → (k first n : ℕ) → recorded_of (block_of m k) ≡ Recorded.Live first n
    → (i : ℕ) → first ≤ i → i < first + n → HasOwner k (cell_of m i)
owner m y k first n e i p q = go (cell_of m i) (y.cover i) (y.owned i)
  where
    here : covers (recorded_of (block_of m k)) i ≡ true
    here = covers-live m k first n e i p q

    go : (c : Cell) → coverage (records_of m) i ≡ occupied c → Owned m.blocks i c → HasOwner k c
    go Cell.Free w g = absurd (omega (arith, w, covered-once m k i here))
    go (Cell.Holds o v) w g = same (ℕ_discrete o k)
      where
        same : Dec (o ≡ k) → o ≡ k
        same (yes d) = d
        same (no d) = absurd (two-covers m y o k i d g here)

-- every other cell is free
pub elsewhere-free : (m : Memory) → Invariant m → (i : ℕ)
    → ((k first n : ℕ) → recorded_of (block_of m k) ≡ Recorded.Live first n → first ≤ i → i < first + n → ⊥)
    → cell_of m i ≡ Cell.Free
elsewhere-free m y i none = go (cell_of m i) (y.owned i)
  where
    within : (o : ℕ) (b : Recorded) → recorded_of (block_of m o) ≡ b → covers b i ≡ true → ⊥
    within o Recorded.Unused e h = true≢false (sym h)
    within o Recorded.Dead e h = true≢false (sym h)
    within o (Recorded.Live first n) e h = at (covering first n i) h
      where
        at : {b : Bool} → Covering first n i b → b ≡ true → ⊥
        at (inside p q) g = none o first n e p q
        at (below p) g = true≢false (sym g)
        at (above p) g = true≢false (sym g)

    go : (c : Cell) → Owned m.blocks i c → c ≡ Cell.Free
    go Cell.Free h = refl
    go (Cell.Holds o v) h = absurd (within o (recorded_of (block_of m o)) refl h)

-- after a run from memory m to memory m₁: "Free cells plus lengths of live blocks make 1,024"; no cell lies in two live
-- blocks; every cell of a live block has its name as owner, and every other cell is free; the names that were given are
-- 1, 2, 3 .., and stay given; a dead block stays dead
pub record Orderly (m m₁ : Memory) : Type 0 where
  pub sum : count_free m₁.cells + live_length (records_of m₁) ≡ cell_count
  pub occupied-sum : count_occupied m₁.cells ≡ live_length (records_of m₁)
  pub separate : (j k first n first₁ n₁ : ℕ) → j ≢ k
      → recorded_of (block_of m₁ j) ≡ Recorded.Live first n → recorded_of (block_of m₁ k) ≡ Recorded.Live first₁ n₁
      → (i : ℕ) → first ≤ i → i < first + n → first₁ ≤ i → i < first₁ + n₁ → ⊥
  pub owned : (k first n : ℕ) → recorded_of (block_of m₁ k) ≡ Recorded.Live first n
      → (i : ℕ) → first ≤ i → i < first + n → HasOwner k (cell_of m₁ i)
  pub free : (i : ℕ)
      → ((k first n : ℕ) → recorded_of (block_of m₁ k) ≡ Recorded.Live first n → first ≤ i → i < first + n → ⊥)
      → cell_of m₁ i ≡ Cell.Free
  pub rising : (j k : ℕ) → 1 ≤ j → j ≤ k → k ≤ name_count → is_unused (block_of m₁ k) ≡ false
      → is_unused (block_of m₁ j) ≡ false
  pub given : (k : ℕ) → is_unused (block_of m k) ≡ false → is_unused (block_of m₁ k) ≡ false
  pub dead : (k : ℕ) → block_of m k ≡ Block.Dead → block_of m₁ k ≡ Block.Dead

pub orderly : {m m₁ : Memory} → Onward m m₁ → Orderly m m₁
orderly {m} {m₁} h = record {
  sum = total m₁ h.invariant;
  occupied-sum = total-occupied m₁ h.invariant;
  separate = apart m₁ h.invariant;
  owned = owner m₁ h.invariant;
  free = elsewhere-free m₁ h.invariant;
  rising = h.invariant.rising;
  given = λ k e. becomes-given (block_of m k) (block_of m₁ k) (h.becomes k) e;
  dead = λ k e. rw e at (h.becomes k);
}

pub plain-orderly : (a : Statement) (ρ : Variables) (m : Memory) (f : ℕ) → Invariant m
    → Orderly m (ending (run a ρ m f)).state
plain-orderly a ρ m f y = orderly (plain-onward a ρ m f y)

pub watched-orderly : (a : TargetStatement) (ρ : Variables) (x : WatchedState) (f : ℕ) → Invariant x.memory
    → Orderly x.memory (ending (watch a ρ x f)).state.memory
watched-orderly a ρ x f y = orderly (watched-onward a ρ x f y)

-- a new block has a name that was unused, and is no more
pub made-unused : (m m₁ : Memory) (u : Use) (n k : ℕ) → Invariant m → make_block m u n ≡ made k m₁
    → block_of m k ≡ Block.Unused
made-unused m m₁ u n k y e = (rw e at (onward-made m u n y)).0

pub made-given : (m m₁ : Memory) (u : Use) (n k : ℕ) → Invariant m → make_block m u n ≡ made k m₁
    → is_unused (block_of m₁ k) ≡ false
made-given m m₁ u n k y e = (rw e at (onward-made m u n y)).2

-- and one above every name that was given: names rise
pub made-above : (m m₁ : Memory) (u : Use) (n k : ℕ) → Invariant m → make_block m u n ≡ made k m₁
    → (j : ℕ) → j ≤ name_count → is_unused (block_of m j) ≡ false → j < k
made-above m m₁ u n k y e j l h = go (dec_lt j k)
  where
    unused : is_unused (block_of m k) ≡ true
    unused = ap is_unused (made-unused m m₁ u n k y e)

    not-0 : (i : ℕ) → is_unused (block_of m i) ≡ true → 1 ≤ i
    not-0 zero w = absurd (true≢false (sym w))
    not-0 (suc i) w = omega arith

    go : Dec (j < k) → j < k
    go (yes d) = d
    go (no d) = absurd (true≢false (sym unused ∙ y.rising k j (not-0 k unused) (omega arith) l h))

-- so no name is given twice, where names stay given from m₁ to m₂, as in every run (`given`) and at a let's end
-- (`end-given`)
pub never-twice : (m m₁ m₂ m₃ : Memory) (u u₂ : Use) (n n₂ k : ℕ) → Invariant m → Invariant m₂
    → make_block m u n ≡ made k m₁ → ((j : ℕ) → is_unused (block_of m₁ j) ≡ false → is_unused (block_of m₂ j) ≡ false)
    → make_block m₂ u₂ n₂ ≡ made k m₃ → ⊥
never-twice m m₁ m₂ m₃ u u₂ n n₂ k y y₂ e h e₂ =
    true≢false
    (sym (ap is_unused (made-unused m₂ m₃ u₂ n₂ k y₂ e₂)) ∙ h k (made-given m m₁ u n k y e))
