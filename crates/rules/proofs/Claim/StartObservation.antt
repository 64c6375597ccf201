-- The observation memory that the calls make at the start mirrors the start memory.
use Prim.Native.Nat.{ℕ, zero, suc, ◌+◌, ◌-◌, ◌≤◌}
use native.Mathlib.Omega.{arith}
use mathlib.Core.Path.{◌≡◌, refl, sym, ap, ◌∙◌}
use mathlib.Core.Bool.{Bool, true, false, not, cond}
use mathlib.Core.List.{List, [], ◌∷◌, ◌++◌, map}
use lib.IntN.{ℤ}
use lib.ListN.{length, set, replicate}
use borrow.Author.Tests.{lt-ltb}
use Rattle.std.specs.Prelude.{Err, Ok, Some}
use Rattle.rules.specs.Types.{Block, Recorded, Cell, Miss}
use Rattle.rules.specs.Sizes.{name_count, cell_count, input_limit}
use Rattle.rules.specs.Checker.{lowest}
use Rattle.rules.specs.Memory.{recorded_of, all_free, lowest_run, fill, start_memory}
use Rattle.rules.specs.Evaluation.{is_initialised}
use Rattle.rules.specs.Observation.{Observation, covers, covered, mark_run, store_at, mark_at, kept, record_block}
use Rattle.rules.specs.Observation.{mark_cell, mark_all, empty_observation, start_observation, mirror}
use Rattle.rules.proofs.Memory.MemoryLaws.{Covering, inside, below, above, covering}
use Rattle.rules.proofs.Claim.Start.{input_cells}

-- block 1 recorded and marked
abbrev first : Observation
first = record {
  blocks = Recorded.Live 0 1 ∷ replicate (name_count - 1) Recorded.Unused;
  marks = true ∷ replicate (cell_count - 1) false;
}

first-is : mark_all (record_block empty_observation 1 1) 1 1 ≡ first
unfolding lowest lowest_run all_free covered mark_all
first-is = refl

-- block 2 of n cells recorded
abbrev second : ℕ → List Bool → Observation
second n marks =
    record { blocks = Recorded.Live 0 1 ∷ Recorded.Live 1 n ∷ replicate (name_count - 2) Recorded.Unused; marks = marks }

unused-covered : (r i : ℕ) → covered (replicate r Recorded.Unused) i ≡ false
unfolding covered
unused-covered zero i = refl
unused-covered (suc r) i = unused-covered r i

-- every mark but the first is free
free-after : (i : ℕ) → 1 ≤ i → not (covered first.blocks i) ≡ true
unfolding covered
free-after i h = go (covers (Recorded.Live 0 1) i) refl (covering 0 1 i)
  where
    go : (b : Bool) → covers (Recorded.Live 0 1) i ≡ b → Covering 0 1 i b → not (covered first.blocks i) ≡ true
    go true e (inside p q) = absurd (omega arith)
    go false e (below p) = absurd (omega arith)
    go false e (above p) =
        ap (λ (c : Bool). not
        (elim c [ true ↦ true | false ↦ covered (replicate (name_count - 1) Recorded.Unused) i ])) e
        ∙ ap not (unused-covered (name_count - 1) i)

all_free-from : (p : ℕ → Bool) (s n : ℕ) → ((i : ℕ) → s ≤ i → p i ≡ true) → all_free p s n ≡ true
unfolding all_free
all_free-from p s zero h = refl
all_free-from p s (suc n) h =
    ap (λ (c : Bool). elim c [ true ↦ all_free p (suc s) n | false ↦ false ]) (h s (omega arith))
    ∙ all_free-from p (suc s) n (λ i l. h i (omega arith))

lowest-second : (p : ℕ → Bool) (k : ℕ) → p 0 ≡ false → p 1 ≡ true → lowest p 0 (suc (suc k)) ≡ Some 1
unfolding lowest
lowest-second p k a b =
    ap (λ (c : Bool). elim c [ true ↦ Some 0 | false ↦ lowest p 1 (suc k) ]) a
    ∙ ap (λ (c : Bool). elim c [ true ↦ Some 1 | false ↦ lowest p 2 k ]) b

first_taken : (n : ℕ) → all_free (λ i. not (covered first.blocks i)) 0 (suc n) ≡ false
unfolding all_free covered
first_taken n = refl

second_run : (n : ℕ) → suc n ≤ input_limit → mark_run first (suc n) ≡ Some 1
unfolding lowest_run
second_run n h =
    let enough : suc cell_count - suc n ≡ suc (suc (1022 - n)) = omega arith in
    rw enough (lowest-second _ (1022 - n) (first_taken n) (all_free-from _ 1 (suc n) free-after))

fill-same : {A : Type 0} (r s n : ℕ) (x : A) → fill (replicate r x) s n x ≡ replicate r x
fill-same zero s n x = refl
fill-same (suc r) zero zero x = refl
fill-same (suc r) zero (suc n) x = ap (λ l. x ∷ l) (fill-same r zero n x)
fill-same (suc r) (suc s) n x = ap (λ l. x ∷ l) (fill-same r s n x)

second_is : (n : ℕ) → suc n ≤ input_limit
    → record_block first 2 (suc n) ≡ second (suc n) (true ∷ replicate (cell_count - 1) false)
second_is n h =
    ap (λ r. kept first (store_at first 2 (suc n) Recorded.Unused r)) (second_run n h)
    ∙ ap (λ l. second (suc n) (true ∷ l)) (fill-same (cell_count - 1) 0 (suc n) false)

-- the marks after j of block 2's cells are marked
mark-next : (j r : ℕ) → set (replicate j true ++ replicate (suc r) false) j true
    ≡ replicate (suc j) true ++ replicate r false
mark-next zero r = refl
mark-next (suc j) r = ap (λ l. true ∷ l) (mark-next j r)

marked : (n j : ℕ) → j ≤ n → n ≤ input_limit
    → mark_all (second n (true ∷ replicate (cell_count - 1) false)) 2 j
    ≡ second n (true ∷ (replicate j true ++ replicate (cell_count - 1 - j) false))
unfolding mark_all
marked n zero h le = refl
marked n (suc j) h le =
    ap (λ o. mark_cell o 2 j) (marked n j (omega arith) le)
    ∙ ap (λ b. kept o₁ (mark_at o₁ (cond b (Ok (1 + j)) (Err Miss.Outside)))) (lt-ltb j n (omega arith))
    ∙ ap (λ i. second n (set (true ∷ (replicate j true ++ replicate (cell_count - 1 - j) false)) i true)) one_more
    ∙ ap (λ r. second n (true ∷ set (replicate j true ++ replicate r false) j true)) left
    ∙ ap (λ l. second n (true ∷ l)) (mark-next j (cell_count - 1 - suc j))
  where
    o₁ : Observation
    o₁ = second n (true ∷ (replicate j true ++ replicate (cell_count - 1 - j) false))

    one_more : 1 + j ≡ suc j
    one_more = omega arith

    left : cell_count - 1 - j ≡ suc (cell_count - 1 - suc j)
    left = omega arith

map-replicate : {A B : Type 0} (g : A → B) (r : ℕ) (x : A) → map g (replicate r x) ≡ replicate r (g x)
map-replicate g zero x = refl
map-replicate g (suc r) x = ap (λ l. g x ∷ l) (map-replicate g r x)

input-marks : (is : List ℤ) (r : ℕ) → map is_initialised (input_cells is r)
    ≡ replicate (length is) true ++ replicate r false
input-marks [] r = map-replicate is_initialised r Cell.Free
input-marks (z ∷ is) r = ap (λ l. true ∷ l) (input-marks is r)

mirror-start : (is : List ℤ)
    → mirror (start_memory is)
    ≡ second (length is) (true ∷ (replicate (length is) true ++ replicate (cell_count - 1 - length is) false))
unfolding start_memory
mirror-start is = λ i. record {
  blocks = Recorded.Live 0 1 ∷ Recorded.Live 1 (length is) ∷ map-replicate recorded_of (name_count - 2) Block.Unused i;
  marks = true ∷ input-marks is (cell_count - 1 - length is) i;
}

start_of : (n : ℕ) → 1 ≤ n → n ≤ input_limit
    → start_observation n ≡ second n (true ∷ (replicate n true ++ replicate (cell_count - 1 - n) false))
start_of zero h le = absurd (omega arith)
start_of (suc n) h le =
    ap (λ o. mark_all (record_block o 2 (suc n)) 2 (suc n)) first-is
    ∙ ap (λ o. mark_all o 2 (suc n)) (second_is n le)
    ∙ marked (suc n) (suc n) (omega arith) le

pub start-mirrors : (is : List ℤ) → 1 ≤ length is → length is ≤ input_limit
    → start_observation (length is) ≡ mirror (start_memory is)
start-mirrors is h le = start_of (length is) h le ∙ sym (mirror-start is)
