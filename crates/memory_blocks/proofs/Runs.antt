-- Facts about the next name, the lowest run of free cells, and the block that has a cell.
use Prim.Native.Nat.{ℕ, zero, suc, ◌+◌, ◌-◌, ◌<◌, ◌≤◌}
use native.Mathlib.Omega.{arith}
use mathlib.Core.Path.{◌≡◌, refl, sym, ap, ◌∙◌, subst}
use mathlib.Core.Bool.{true, false, true≢false}
use mathlib.Core.List.{List}
use lib.IntN.{ℤ}
use lib.ListN.{get_or}
use Rattle.rules.specs.Sizes.{name_count, cell_count}
use Rattle.rules.specs.Words.{word_at, integer_at}
use Rattle.rules.specs.Memory.{Memory, recorded_of, named, block_of, cell_of, is_free, is_unused, all_free, lowest_run}
use Rattle.rules.specs.Memory.{free_run, next_name, Use, made, make_block, with_block}
use Rattle.rules.specs.Observation.{covers}
use Rattle.rules.specs.Layout.{memory_of, block_place, cell_place, block_at, cell_from, cell_at}
use Rattle.rules.specs.declared.{Recorded.Recorded, Block.Block, Cell.Cell}
use Rattle.rules.specs.declared.Counts.{Counts}
use Rattle.rules.proofs.Lists.RunLaws.{Held, lowest-at, run-bound}
use Rattle.rules.proofs.Lists.SearchLaws.{Outcome, lowest-outcome}
use Rattle.rules.proofs.Memory.MemoryLaws.{named_in, named-map, coverage}
use Rattle.rules.proofs.Memory.Invariant.{Invariant, Owned, occupied, records_of}
use Rattle.rules.proofs.Memory.BlockEnds.{held-to-end, block-covers}
use Rattle.memory_cells.proofs.Reading.{cell_in, block-named, count-blocks}
use Rattle.block_places.specs.Ends.{end_at}
use Rattle.memory_counts.specs.Counted.{Counted, after_new}
use Rattle.memory_counts.proofs.CountLaws.{room-counted, counted-new}
use Rattle.std.specs.Prelude.{Some}

pub name-bound : (m : Memory) (k : ℕ) → next_name m ≡ Some k → (0 < k) × (k ≤ name_count)
name-bound m k e =
    let w = subst (Outcome (λ (j : ℕ). is_unused (block_of m j)) 1 name_count) e (lowest-outcome _ 1 name_count) in
    (omega (arith, w.0), omega (arith, w.1))

-- a name and a run of cells that were found for a new block
module _ {m : Memory} {c : Counts} {k first : ℕ} (u : Use) (n : ℕ) (h : Counted m c) (name : next_name m ≡ Some k)
    (run : free_run m n ≡ Some first) where
  makes : make_block m u n ≡ made k (with_block m u k first n)
  makes = rw (name, run) refl

  pub room-found : (n ≤ c.free) × (c.next ≤ name_count) × (first + n ≤ cell_count)
  room-found = room-counted h u n k first makes name (run-bound _ n first run)

  pub counted-found : Counted (with_block m u k first n) (after_new c first n)
  counted-found = counted-new h u n k first makes name (run-bound _ n first run)

pub run-of-none : (m : Memory) → Some 0 ≡ free_run m 0
unfolding lowest_run all_free
run-of-none m =
    sym (lowest-at (λ (j : ℕ). all_free (λ (i : ℕ). is_free (cell_of m i)) j 0) (suc cell_count) 0 0
    (λ i a b. absurd (omega arith)) refl
    (omega arith) (omega arith))

-- ---- the block that has a cell: its name is the owner in the cell's bytes
held-owner : (b : List Block) (i k o n : ℕ) (z : ℤ) → is_free (cell_from k o n z) ≡ false → Owned b i (cell_from k o n z)
    → covers (recorded_of (named b o Block.Dead)) i ≡ true
held-owner b i zero o n z f w = absurd (true≢false f)
held-owner b i (suc zero) o n z f w = w
held-owner b i (suc (suc zero)) o n z f w = w
held-owner b i (suc (suc (suc k))) o n z f w = w

module _ (l : List ℕ) (i : ℕ) (v : Invariant (memory_of l)) (h : i < cell_count)
    (f : is_free (cell_of (memory_of l) i) ≡ false) where
  abbrev owner : ℕ
  owner = word_at 2 l (cell_place i + 2)

  owner-covers : covers (recorded_of (block_of (memory_of l) owner)) i ≡ true
  unfolding cell_at
  owner-covers =
      held-owner (memory_of l).blocks i (get_or l (cell_place i) 0) owner (word_at 2 l (cell_place i + 4))
      (integer_at l (cell_place i + 8)) (ap is_free (cell_in l i h) ∙ f)
      (subst (Owned (memory_of l).blocks i) (sym (cell_in l i h)) (v.owned i))

  pub owner-named : (1 ≤ owner) × (owner ≤ name_count)
  owner-named =
      let r = named_in (memory_of l).blocks owner Block.Dead
      (λ q. true≢false (sym owner-covers ∙ ap (λ b. covers (recorded_of b) i) q)) in
      (r.0, omega (arith, r.1, count-blocks l))

  -- no cell is free from there to the end of that block
  pub owner-end : Held (λ j. is_free (cell_of (memory_of l) j)) i (end_at l owner)
  unfolding block_at
  owner-end =
      held-to-end (records_of (memory_of l)) (λ j. is_free (cell_of (memory_of l) j)) apart owner i first n
      (named-map recorded_of (memory_of l).blocks owner Block.Dead ∙ live) (v.within owner first n live)
      (ap (λ b. covers b i) (sym live) ∙ owner-covers)
    where
      first : ℕ
      first = word_at 2 l (block_place (owner - 1) + 2)

      n : ℕ
      n = word_at 2 l (block_place (owner - 1) + 4)

      is : block_at l (owner - 1) ≡ block_of (memory_of l) owner
      is = block-named l owner (omega (arith, owner-named.0)) owner-named.1

      live : recorded_of (block_of (memory_of l) owner) ≡ Recorded.Live first n
      live =
          ap recorded_of (sym is)
          ∙ block-covers first n i (get_or l (block_place (owner - 1)) 0)
          (ap (λ b. covers (recorded_of b) i) is ∙ owner-covers)

      busy : (c : Cell) → 1 ≤ occupied c → is_free c ≡ false
      busy Cell.Free a = absurd (omega arith)
      busy (Cell.Holds o x) a = refl

      apart : (j : ℕ) → j < cell_count → 1 ≤ coverage (records_of (memory_of l)) j
          → is_free (cell_of (memory_of l) j) ≡ false
      apart j b a = busy (cell_of (memory_of l) j) (omega (arith, v.cover j))
