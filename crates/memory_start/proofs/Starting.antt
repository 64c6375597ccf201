-- The memory that a run starts with, made step by step from cleared bytes.
use Prim.Native.Nat.{ℕ, zero, suc, ◌+◌, ◌-◌, ◌*◌, ◌/◌, ◌≤◌}
use native.Mathlib.Omega.{arith}
use native.Mathlib.Numerals.{add-one}
use mathlib.Core.Path.{◌≡◌, refl, sym, ap, subst, ◌∙◌}
use mathlib.Core.List.{List, [], ◌∷◌, ◌++◌, map}
use lib.IntN.{ℤ, pos}
use lib.ListN.{length, set, replicate, take, drop, length-append, length-drop}
use lib.Seq.{drop-drop, drop-append_seam}
use Rattle.std.proofs.lemmas.List.{take-append-le}
use mir.Syntax.{w64}
use mir.Val.{to_z}
use Rattle.rules.specs.Sizes.{name_count, cell_count}
use Rattle.rules.specs.Words.{little, word_at, integer_at}
use Rattle.rules.specs.Memory.{Memory, set_cell, start_memory}
use Rattle.rules.specs.Answers.{numbers_in, inputs_of}
use Rattle.rules.specs.Layout.{memory_of, memory_image}
use Rattle.rules.specs.declared.{Value.Value, Block.Block, Cell.Cell}
use Rattle.memory_cells.specs.Changes.{Exact, Becomes, empty_memory}
use Rattle.memory_cell_changes.proofs.Clearing.{empty-view}
use Rattle.memory_cell_changes.proofs.Writing.{unchanged, becomes-then}
use Rattle.memory_start.specs.Starting.{with_start, with_inputs}

-- ---- the inputs, one after the other
abbrev input-cell : ℤ → Cell
input-cell z = Cell.Holds 2 (Value.Integer z)

-- the loop: the first n inputs are in their cells
pub inputs-start : (l i : List ℕ) → Becomes l l (with_inputs (memory_of l) i 0)
unfolding with_inputs
inputs-start l i = unchanged l _ refl

pub inputs-turn : {l l' l'' : List ℕ} (i : List ℕ) (n : ℕ) {z : ℤ} → z ≡ integer_at i (n * 8)
    → Becomes l l' (with_inputs (memory_of l) i n) → Becomes l' l'' (set_cell (memory_of l') (n + 1) (input-cell z))
    → Becomes l l'' (with_inputs (memory_of l) i (n + 1))
unfolding with_inputs
inputs-turn i n e x y =
    rw add-one (becomes-then (λ (m : Memory). set_cell m (suc n) (input-cell (integer_at i (n * 8)))) x (rw (add-one, e) at y))

-- the eight bytes that come, before those that are left
pub next-input : (i : List ℕ) (at : ℕ) (x rest : List ℕ) {left : List ℕ} → left ≡ drop at i → left ≡ x ++ rest
    → length x ≡ 8 → (integer_at x 0 ≡ integer_at i at) × (rest ≡ drop (at + 8) i) × (at + 8 ≤ length i)
unfolding word_at
next-input i at x rest d e n =
    let here : drop at i ≡ x ++ rest = sym d ∙ e in
    let eight : take 8 (drop at i) ≡ take 8 x = ap (take 8) here ∙ take-append-le 8 x rest (omega arith) in
    let behind : drop 8 (drop at i) ≡ rest =
    ap (drop 8) here ∙ subst (λ (k : ℕ). drop k (x ++ rest) ≡ rest) n (drop-append_seam x rest) in (
      ap (λ (b : List ℕ). to_z w64 (little b)) (sym eight),
      sym behind ∙ drop-drop 8 at i,
      omega (arith, length-drop at i, ap length here, length-append x rest),
    )

number-next : (i : List ℕ) (n : ℕ) → integer_at (drop 8 i) (n * 8) ≡ integer_at i (suc n * 8)
unfolding word_at
number-next i n =
    let e : 8 + n * 8 ≡ suc n * 8 = omega arith in
    ap (λ (l : List ℕ). to_z w64 (little (take 8 l))) (drop-drop (n * 8) 8 i ∙ ap (λ (k : ℕ). drop k i) e)

numbers_more : (n : ℕ) (i : List ℕ) → numbers_in (suc n) i ≡ numbers_in n i ++ (integer_at i (n * 8) ∷ [])
numbers_more zero i = refl
numbers_more (suc n) i =
    ap (λ (l : List ℤ). integer_at i 0 ∷ l)
    (numbers_more n (drop 8 i) ∙ ap (λ (z : ℤ). numbers_in n (drop 8 i) ++ (z ∷ [])) (number-next i n))

map_snoc : {A B : Type 0} (f : A → B) (xs : List A) (x : A) → map f (xs ++ (x ∷ [])) ≡ map f xs ++ (f x ∷ [])
map_snoc f [] x = refl
map_snoc f (y ∷ ys) x = ap (λ (l : List _). f y ∷ l) (map_snoc f ys x)

length-numbers : {B : Type 0} (f : ℤ → B) (n : ℕ) (i : List ℕ) → length (map f (numbers_in n i)) ≡ n
length-numbers f zero i = refl
length-numbers f (suc n) i = ap suc (length-numbers f n (drop 8 i))

set-seam : {A : Type 0} (xs : List A) (y x : A) (ys : List A) (k : ℕ) → length xs ≡ k
    → set (xs ++ (y ∷ ys)) k x ≡ (xs ++ (x ∷ [])) ++ ys
set-seam [] y x ys zero e = refl
set-seam [] y x ys (suc k) e = absurd (omega (arith, e))
set-seam (z ∷ xs) y x ys zero e = absurd (omega (arith, e))
set-seam (z ∷ xs) y x ys (suc k) e = ap (λ (l : List _). z ∷ l) (set-seam xs y x ys k (omega (arith, e)))

more-cells : (i : List ℕ) (n r : ℕ)
    → set (map input-cell (numbers_in n i) ++ (Cell.Free ∷ replicate r Cell.Free)) n (input-cell (integer_at i (n * 8)))
    ≡ map input-cell (numbers_in (suc n) i) ++ replicate r Cell.Free
more-cells i n r =
    set-seam (map input-cell (numbers_in n i)) Cell.Free (input-cell (integer_at i (n * 8))) (replicate r Cell.Free) n
    (length-numbers input-cell n i)
    ∙ ap (λ (l : List Cell). l ++ replicate r Cell.Free)
    (sym (ap (map input-cell) (numbers_more n i) ∙ map_snoc input-cell (numbers_in n i) (integer_at i (n * 8))))

module _ (m : Memory) (c : Cell) (i : List ℕ) (e : m.cells ≡ c ∷ replicate (cell_count - 1) Cell.Free) where
  inputs-blocks : (n : ℕ) → (with_inputs m i n).blocks ≡ m.blocks
  unfolding with_inputs
  inputs-blocks zero = refl
  inputs-blocks (suc n) = inputs-blocks n

  inputs-cells : (n : ℕ) → n ≤ cell_count - 1
      → (with_inputs m i n).cells ≡ c ∷ (map input-cell (numbers_in n i) ++ replicate (cell_count - 1 - n) Cell.Free)
  unfolding with_inputs
  inputs-cells zero h = e
  inputs-cells (suc n) h =
      let r : cell_count - 1 - n ≡ suc (cell_count - 1 - suc n) = omega arith in
      ap (λ (l : List Cell). set l (suc n) (input-cell (integer_at i (n * 8))))
      (inputs-cells n (omega arith)
      ∙ ap (λ (k : ℕ). c ∷ (map input-cell (numbers_in n i) ++ replicate k Cell.Free)) r)
      ∙ ap (λ (l : List Cell). c ∷ l) (more-cells i n (cell_count - 1 - suc n))

length-inputs : (n : ℕ) (i : List ℕ) → length (numbers_in n i) ≡ n
length-inputs zero i = refl
length-inputs (suc n) i = ap suc (length-inputs n (drop 8 i))

start-memory : (i : List ℕ) (n : ℕ) → n ≤ cell_count - 1
    → with_inputs (with_start empty_memory n) i n ≡ start_memory (numbers_in n i)
unfolding start_memory
start-memory i n h =
    let c : Cell = Cell.Holds 1 (Value.Pointer (record { name = 2; offset = pos 0 })) in
    let k : n ≡ length (numbers_in n i) = sym (length-inputs n i) in
    let b = inputs-blocks (with_start empty_memory n) c i refl n
    ∙ ap (λ (j : ℕ). Block.Fixed 0 1 ∷ Block.Fixed 1 j ∷ replicate (name_count - 2) Block.Unused) k in
    let l = inputs-cells (with_start empty_memory n) c i refl n h
    ∙ ap (λ (j : ℕ). c ∷ (map input-cell (numbers_in n i) ++ replicate (cell_count - 1 - j) Cell.Free)) k in
    λ t. record { blocks = b t; cells = l t }

-- from cleared bytes through the two steps
pub start-bytes : (l₁ l₂ l₃ i : List ℕ) (n : ℕ) → n ≡ length i / 8 → n ≤ cell_count - 1 → l₁ ≡ memory_image empty_memory
    → Becomes l₁ l₂ (with_start (memory_of l₁) n) → Becomes l₂ l₃ (with_inputs (memory_of l₂) i n)
    → l₃ ≡ memory_image (start_memory (inputs_of i))
start-bytes l₁ l₂ l₃ i n e h a b d =
    let v₁ : memory_of l₁ ≡ empty_memory = ap memory_of a ∙ empty-view in
    let x₁ : Exact l₁ = a ∙ sym (ap memory_image v₁) in
    let v₂ : memory_of l₂ ≡ with_start empty_memory n = b.view ∙ ap (λ (m : Memory). with_start m n) v₁ in
    let v₃ : memory_of l₃ ≡ start_memory (numbers_in n i) =
    d.view ∙ ap (λ (m : Memory). with_inputs m i n) v₂ ∙ start-memory i n h in
    d.exact (b.exact x₁) ∙ ap memory_image v₃ ∙ ap (λ (k : ℕ). memory_image (start_memory (numbers_in k i))) e
