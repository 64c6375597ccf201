-- The counts stay right: at the start, at a store, at a new block and at the end of one.
use Prim.Native.Nat.{ℕ, zero, suc, ◌+◌, ◌-◌, ◌/◌, ◌≤◌, ◌<◌}
use native.Mathlib.Omega.{arith}
use mathlib.Core.List.{List, [], ◌∷◌, ◌++◌, map}
use mathlib.Core.Path.{◌≡◌, refl, sym, ap, ◌∙◌, subst}
use mathlib.Core.Bool.{false, true≢false}
use lib.IntN.{ℤ}
use lib.ListN.{length, get_or, replicate}
use mir.Syntax.{w32}
use mir.Val.{Fits}
use Rattle.rules.specs.declared.Counts.{Counts}
use Rattle.rules.specs.Sizes.{name_count, cell_count}
use Rattle.rules.specs.Checker.{inputs_fault}
use Rattle.rules.specs.Memory.{Memory, recorded_of, block_of, cell_of, store_cell, is_free, next_name, Use, made, make_block}
use Rattle.rules.specs.Memory.{with_block, end_block, without_cells, count_free, start_memory}
use Rattle.rules.specs.declared.{Pointer.Pointer, Value.Value, Recorded.Recorded, Block.Block, Cell.Cell}
use Rattle.rules.proofs.Lists.RunLaws.{NoneBelow, lowest_given, none-taken, none-given, taken-within, given-within}
use Rattle.rules.proofs.Memory.MemoryLaws.{fill-inside, fill-below, fill-above, coverage}
use Rattle.rules.proofs.Runs.Keeping.{AnyNumber, MadeKeeps}
use Rattle.rules.proofs.Memory.Invariant.{occupied, changed_memory}
use Rattle.rules.proofs.Memory.BlockChanges.{onward-cell, end-invariant}
use Rattle.rules.proofs.Memory.Changes.{Given, onward-made}
use Rattle.rules.specs.Layout.{memory_of, memory_image}
use Rattle.rules.specs.Answers.{inputs_of}
use Rattle.rules.proofs.Layouts.LayoutLaws.{memory-back}
use Rattle.rules.proofs.Layouts.ReachableRoundTrip.{start-inside}
use Rattle.rules.proofs.Claim.Inputs.{inputs-length, inputs-few}
use Rattle.rules.proofs.Claim.Start.{start-invariant}
use Rattle.rules_counting.specs.Counting.{name_from}
use Rattle.rules_counting.proofs.Adjusting.{Takes, new-takes, end-gives-back, free_bound, blocks-decide}
use Rattle.rules_counting.proofs.Adjusting.{store-blocks}
use Rattle.rules_counting.proofs.Starting.{start-free, start-next}
use Rattle.rules_counting.proofs.NextNames.{name-is, new-next, end-next, names-decide}
use Rattle.memory_counts.specs.Counted.{start_counts, after_new, after_end, Counted}
use Rattle.std.specs.Prelude.{Some}

pub counted_is : {m m₁ : Memory} {c c₁ : Counts} → m₁ ≡ m → c₁ ≡ c → Counted m c → Counted m₁ c₁
counted_is p q h = rw (p, q) h

module _ {m : Memory} {c : Counts} (h : Counted m c) where
  -- a new block, of the n cells from first on
  module _ (u : Use) (n k first : ℕ) (e : make_block m u n ≡ made k (with_block m u k first n))
      (next : next_name m ≡ Some k) (bound : first + n ≤ cell_count) where
    abbrev m₁ : Memory
    m₁ = with_block m u k first n

    named : (c.next ≡ k) × (c.next ≤ name_count)
    named = name-is c.next k (sym h.next ∙ next)

    takes : Takes m n m₁
    takes = subst (MadeKeeps (λ k m₁. Takes m n m₁) AnyNumber) e (new-takes m u n h.invariant)

    pub room-counted : (n ≤ c.free) × (c.next ≤ name_count) × (first + n ≤ cell_count)
    room-counted = (omega (arith, takes, h.free), named.1, bound)

    pub counted-new : Counted m₁ (after_new c first n)
    counted-new =
        let later : suc k ≡ c.next + 1 = omega (arith, named.0) in
        record {
          invariant = (subst (MadeKeeps (Given m) AnyNumber) e (onward-made m u n h.invariant)).1.invariant;
          free = omega (arith, takes, h.free);
          next =
              subst (MadeKeeps (λ k m₁. next_name m₁ ≡ name_from (suc k)) AnyNumber) e (new-next m u n h.invariant)
              ∙ ap name_from later;
          -- a cell of the block is held, any other is as it was
          lowest =
              none-taken _ _ first c.lowest h.lowest n
              (λ j x y. ap is_free (fill-inside m.cells first n _ j Cell.Free (inside j y) x y))
              (λ j x. ap is_free (fill-below m.cells first n _ j Cell.Free x))
              (λ j x b. ap is_free (fill-above m.cells first n _ j Cell.Free x));
          within = taken-within first n c.lowest bound h.within;
        }
      where
        inside : (j : ℕ) → j < first + n → j < length m.cells
        inside j y = omega (arith, h.invariant.size)

  -- the end of a live one
  module _ (k first n : ℕ) (e : recorded_of (block_of m k) ≡ Recorded.Live first n) where
    gives_back : count_free (end_block m k).cells ≡ count_free m.cells + n
    gives_back = end-gives-back m k first n h.invariant e

    pub end-counted : c.free + n ≤ cell_count
    end-counted = omega (arith, h.free, gives_back, free_bound (end_block m k) (end-invariant m k h.invariant))

    pub counted-end : Counted (without_cells m k (Recorded.Live first n)) (after_end c first n)
    counted-end =
        subst (λ (r : Recorded). Counted (without_cells m k r) (after_end c first n)) e
        (record {
          invariant = end-invariant m k h.invariant;
          free = omega (arith, h.free, gives_back);
          next = end-next m k ∙ h.next;
          lowest =
              subst (λ (r : Recorded). NoneBelow (λ i. is_free (cell_of (without_cells m k r) i))
              (lowest_given first c.lowest)) (sym e)
              (none-given _ _ first c.lowest h.lowest
              (λ j x. ap is_free (fill-below m.cells first n _ j Cell.Free x)));
          within = given-within first c.lowest h.within;
        })

  -- a store
  pub counted-store : (p : Pointer) (v : Value) → Counted (changed_memory (store_cell m p v)) c
  counted-store p v =
      let y = (onward-cell m p v h.invariant).invariant in
      record {
        invariant = y;
        free =
            h.free
            ∙ sym (blocks-decide m (changed_memory (store_cell m p v)) h.invariant y (store-blocks m p v));
        next = names-decide m (changed_memory (store_cell m p v)) (store-blocks m p v) ∙ h.next;
        lowest = λ j b.
            free-as (cell_of m j) (cell_of (changed_memory (store_cell m p v)) j)
            (sym (y.cover j) ∙ ap (λ (l : List Block). coverage (map recorded_of l) j) (store-blocks m p v)
            ∙ h.invariant.cover j) (h.lowest j b);
        within = h.within;
      }
    where
      -- a cell is free where it is not occupied
      free-as : (a b : Cell) → occupied b ≡ occupied a → is_free a ≡ false → is_free b ≡ false
      free-as Cell.Free b e f = absurd (true≢false f)
      free-as (Cell.Holds o w) Cell.Free e f = absurd (omega arith)
      free-as (Cell.Holds o w) (Cell.Holds o₁ w₁) e f = refl

-- the start, in bytes l: the cells of both blocks are held
start-held : (inputs : List ℤ) (j : ℕ) → j ≤ length inputs → is_free (cell_of (start_memory inputs) j) ≡ false
unfolding start_memory
start-held inputs zero b = refl
start-held inputs (suc j) b = go inputs j b
  where
    go : (zs : List ℤ) (j : ℕ) → suc j ≤ length zs
        → is_free (get_or (map (λ z. Cell.Holds 2 (Value.Integer z)) zs
        ++ replicate (cell_count - 1 - length inputs) Cell.Free) j Cell.Free) ≡ false
    go [] j b = absurd (omega arith)
    go (z ∷ zs) zero b = refl
    go (z ∷ zs) (suc j) b = go zs j (omega arith)

pub counted_start : (i l : List ℕ) {c : Counts} → inputs_fault i ≡ false → l ≡ memory_image (start_memory (inputs_of i))
    → c ≡ start_counts (length i / 8) → Counted (memory_of l) c
counted_start i l e s q =
    let few = inputs-few i e in
    let m = start_memory (inputs_of i) in
    counted_is (ap memory_of s ∙ memory-back m (start-inside i e).memory-fits) q
    (record {
      invariant = start-invariant (inputs_of i) few;
      free = omega (arith, start-free (inputs_of i) few, inputs-length i);
      next = start-next (inputs_of i);
      lowest = λ j b. start-held (inputs_of i) j (omega (arith, inputs-length i));
      within = omega (arith, few, inputs-length i);
    })

-- and what an answer tells
pub free-fits : {m : Memory} {c : Counts} → Counted m c → Fits w32 c.free
free-fits {m} h = record { fits = omega (arith, h.free, free_bound m h.invariant) }
