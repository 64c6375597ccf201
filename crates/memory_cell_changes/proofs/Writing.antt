-- What bytes stand for after one record is put, and that exact bytes stay exact.
use Prim.Native.Nat.{ℕ, zero, suc, ◌+◌, ◌-◌, ◌*◌, ◌<◌, ◌≤◌}
use native.Mathlib.Nat.{add-zero, le_trans, le_of_eq}
use native.Mathlib.Omega.{arith}
use mathlib.Core.Path.{◌≡◌, refl, sym, ap, ◌∙◌, subst}
use mathlib.Core.Logic.{◌≢◌, ◌⊎◌, inl, inr, ⊎_elim}
use mathlib.Core.List.{List}
use lib.ListN.{length, get_or, set}
use lib.Seq.{set_out}
use Rattle.rules.specs.Sizes.{name_count, cell_count, memory_length}
use Rattle.rules.specs.Words.{little, put, word_at}
use Rattle.rules.specs.Memory.{Memory, set_cell}
use Rattle.rules.specs.Layout.{memory_of, memory_image, block_bytes, cell_bytes, block_place, cell_place, block_at, cell_at}
use Rattle.rules.proofs.Lists.WordLaws.{part-put-in, get_d-put-in, get_d-put-apart}
use Rattle.rules.proofs.Lists.WordLaws.{word-put-apart, fits-range}
use Rattle.rules.proofs.Lists.Rows.{tabulate-same, tabulate-set}
use Rattle.rules.specs.Fits.{FitsBlock, FitsCell}
use Rattle.rules.proofs.Layouts.LayoutLaws.{length-block_bytes, length-cell_bytes, block_back, cell-back}
use Rattle.rules.proofs.Layouts.ImagePuts.{image-put-block, image-put-cell}
use Rattle.rules.specs.declared.{Value.Value, Block.Block, Cell.Cell}
use Rattle.memory_cells.specs.Changes.{Becomes, set_block, CellHeld, BlockHeld}
use Rattle.memory_cells.proofs.Reading.{count-blocks, count-cells}
use Rattle.memory_cells.proofs.Apart.{rows_apart}

-- ---- records that a put leaves alone
module _ (l bs : List ℕ) (at : ℕ) (room : at + length bs ≤ length l)
    (a n : ℕ) (r : (a + n ≤ at) ⊎ (at + length bs ≤ a)) where
  byte-apart : 0 < n → get_or (put l at bs) a 0 ≡ get_or l a 0
  byte-apart h =
      ap (λ (k : ℕ). get_or (put l at bs) k 0) (sym (add-zero a)) ∙ get_d-put-apart l bs at room a n 0 r h
      ∙ ap (λ (k : ℕ). get_or l k 0) (add-zero a)

  cell_apart : (j : ℕ) → a ≡ cell_place j → n ≡ 16 → cell_at (put l at bs) j ≡ cell_at l j
  unfolding cell_at
  cell_apart j e f =
      let z = byte-apart (omega arith) in
      let x = word-put-apart l bs at room a n 2 2 r (omega arith) in
      let y = word-put-apart l bs at room a n 4 2 r (omega arith) in
      let w = word-put-apart l bs at room a n 8 8 r (omega arith) in
      rw (← e, z, x, y, w) refl

  block_apart : (k : ℕ) → a ≡ block_place k → n ≡ 8 → block_at (put l at bs) k ≡ block_at l k
  unfolding block_at
  block_apart k e f =
      let z = byte-apart (omega arith) in
      let x = word-put-apart l bs at room a n 2 2 r (omega arith) in
      let y = word-put-apart l bs at room a n 4 2 r (omega arith) in
      rw (← e, z, x, y) refl

-- ---- the record that was put
module _ (l bs : List ℕ) (at : ℕ) (room : at + length bs ≤ length l) where
  byte-put-first : 0 < length bs → get_or (put l at bs) at 0 ≡ get_or bs 0 0
  byte-put-first h = ap (λ (k : ℕ). get_or (put l at bs) k 0) (sym (add-zero at)) ∙ get_d-put-in l bs at room 0 h

  word-put-in : (m k : ℕ) → k + m ≤ length bs → word_at m (put l at bs) (at + k) ≡ word_at m bs k
  unfolding word_at
  word-put-in m k h = ap little (part-put-in l bs at room m k h)

-- ---- what the bytes stand for then
module _ (l : List ℕ) (e : length l ≡ memory_length) (i : ℕ) (c : Cell) (h : i < cell_count) where
  cell_room : cell_place i + length (cell_bytes c) ≤ length l
  cell_room = omega (arith, length-cell_bytes c)

  cell-put-same : FitsCell c → cell_at (put l (cell_place i) (cell_bytes c)) i ≡ c
  unfolding cell_at
  cell-put-same f =
      let n = length-cell_bytes c in
      let z = byte-put-first l (cell_bytes c) (cell_place i) cell_room (omega (arith, n)) in
      let x = word-put-in l (cell_bytes c) (cell_place i) cell_room 2 2 (omega (arith, n)) in
      let y = word-put-in l (cell_bytes c) (cell_place i) cell_room 2 4 (omega (arith, n)) in
      let w = word-put-in l (cell_bytes c) (cell_place i) cell_room 8 8 (omega (arith, n)) in
      rw (z, x, y, w) (cell-back c f)

  cell-put-other : (j : ℕ) → j ≢ i → cell_at (put l (cell_place i) (cell_bytes c)) j ≡ cell_at l j
  cell-put-other j d =
      cell_apart l (cell_bytes c) (cell_place i) cell_room (cell_place j) 16
      (⊎_elim (λ b. inl (low b)) (λ b. inr (high b)) (rows_apart 16 i j d)) j refl refl
    where
      low : j * 16 + 16 ≤ i * 16 → cell_place j + 16 ≤ cell_place i
      low b = omega arith

      high : i * 16 + 16 ≤ j * 16 → cell_place i + length (cell_bytes c) ≤ cell_place j
      high b = omega (arith, length-cell_bytes c)

  block-put-cell : (k : ℕ) → k < name_count → block_at (put l (cell_place i) (cell_bytes c)) k ≡ block_at l k
  block-put-cell k d =
      block_apart l (cell_bytes c) (cell_place i) cell_room (block_place k) 8 (inl (omega arith)) k refl refl

  view-cell : FitsCell c → memory_of (put l (cell_place i) (cell_bytes c)) ≡ set_cell (memory_of l) i c
  unfolding memory_of
  view-cell f = λ t. record {
    blocks = tabulate-same name_count (block_at l) (block_at (put l (cell_place i) (cell_bytes c)))
        (λ k b. block-put-cell k b) t;
    cells = tabulate-set cell_count i (cell_at l) (cell_at (put l (cell_place i) (cell_bytes c))) c h (cell-put-same f)
        (λ j b d. cell-put-other j d) t;
  }

module _ (l : List ℕ) (e : length l ≡ memory_length) (k : ℕ) (b : Block) (h : k < name_count) where
  block_room : block_place k + length (block_bytes b) ≤ length l
  block_room = omega (arith, length-block_bytes b)

  block-put-same : FitsBlock b → block_at (put l (block_place k) (block_bytes b)) k ≡ b
  unfolding block_at
  block-put-same f =
      let n = length-block_bytes b in
      let z = byte-put-first l (block_bytes b) (block_place k) block_room (omega (arith, n)) in
      let x = word-put-in l (block_bytes b) (block_place k) block_room 2 2 (omega (arith, n)) in
      let y = word-put-in l (block_bytes b) (block_place k) block_room 2 4 (omega (arith, n)) in
      rw (z, x, y) (block_back b f)

  block-put-other : (j : ℕ) → j ≢ k → block_at (put l (block_place k) (block_bytes b)) j ≡ block_at l j
  block-put-other j d =
      block_apart l (block_bytes b) (block_place k) block_room (block_place j) 8
      (⊎_elim (λ x. inl x) (λ x. inr (high x)) (rows_apart 8 k j d)) j refl refl
    where
      high : k * 8 + 8 ≤ j * 8 → block_place k + length (block_bytes b) ≤ block_place j
      high x = omega (arith, length-block_bytes b)

  cell-put-block : (j : ℕ) → cell_at (put l (block_place k) (block_bytes b)) j ≡ cell_at l j
  cell-put-block j =
      cell_apart l (block_bytes b) (block_place k) block_room (cell_place j) 16
      (inr (omega (arith, length-block_bytes b))) j refl refl

  view-block : FitsBlock b → memory_of (put l (block_place k) (block_bytes b)) ≡ set_block (memory_of l) (suc k) b
  unfolding memory_of
  view-block f = λ t. record {
    blocks = tabulate-set name_count k (block_at l) (block_at (put l (block_place k) (block_bytes b))) b h (block-put-same f)
        (λ j x d. block-put-other j d) t;
    cells =
        tabulate-same cell_count (cell_at l) (cell_at (put l (block_place k) (block_bytes b))) (λ j x. cell-put-block j) t;
  }

-- ---- changes
pub unchanged : (l : List ℕ) (m : Memory) → memory_of l ≡ m → Becomes l l m
unchanged l m e = record { view = e; exact = λ x. x }

fits-cell : (c : Cell) → CellHeld c → FitsCell c
fits-cell Cell.Free h = tt
fits-cell (Cell.Holds o Value.Undefined) h = h
fits-cell (Cell.Holds o (Value.Integer z)) h = (h.0, fits-range z h.1)
fits-cell (Cell.Holds o (Value.Pointer p)) h = (h.0, (h.1.0, fits-range p.offset h.1.1))

fits-block : (b : Block) → BlockHeld b → FitsBlock b
fits-block Block.Unused h = tt
fits-block (Block.Fixed first n) h = h
fits-block (Block.Freeable first n) h = h
fits-block Block.Dead h = tt

pub becomes_cell : {l l' : List ℕ} (i : ℕ) (c : Cell) → l' ≡ put l (cell_place i) (cell_bytes c)
    → length l ≡ memory_length → i < cell_count → CellHeld c → Becomes l l' (set_cell (memory_of l) i c)
becomes_cell {l} i c q e h s =
    let v : memory_of (put l (cell_place i) (cell_bytes c)) ≡ set_cell (memory_of l) i c =
    view-cell l e i c h (fits-cell c s) in
    let inside : i < length (memory_of l).cells = omega (arith, count-cells l) in
    rw q (record {
      view = v;
      exact = λ x. ap (λ (t : List ℕ). put t (cell_place i) (cell_bytes c)) x
          ∙ image-put-cell (memory_of l) i c (count-blocks l) inside ∙ ap memory_image (sym v);
    })

pub cell_outside : (l : List ℕ) (i : ℕ) (c : Cell) → cell_count ≤ i → Becomes l l (set_cell (memory_of l) i c)
cell_outside l i c h =
    let e : set (memory_of l).cells i c ≡ (memory_of l).cells =
    set_out (memory_of l).cells i c (le_trans (le_of_eq (count-cells l)) h) in
    unchanged l (set_cell (memory_of l) i c) (λ t. record { blocks = (memory_of l).blocks; cells = sym e t })

becomes-record : {l l' : List ℕ} (k : ℕ) (b : Block) → l' ≡ put l (block_place k) (block_bytes b)
    → length l ≡ memory_length → k < name_count → BlockHeld b → Becomes l l' (set_block (memory_of l) (suc k) b)
becomes-record {l} k b q e h s =
    let v : memory_of (put l (block_place k) (block_bytes b)) ≡ set_block (memory_of l) (suc k) b =
    view-block l e k b h (fits-block b s) in
    let inside : k < length (memory_of l).blocks = omega (arith, count-blocks l) in
    rw q (record {
      view = v;
      exact = λ x. ap (λ (t : List ℕ). put t (block_place k) (block_bytes b)) x
          ∙ image-put-block (memory_of l) k b inside ∙ ap memory_image (sym v);
    })

pub becomes_block : {l l' : List ℕ} (k : ℕ) (b : Block) → l' ≡ put l (block_place (k - 1)) (block_bytes b)
    → length l ≡ memory_length → 0 < k → k ≤ name_count → BlockHeld b → Becomes l l' (set_block (memory_of l) k b)
becomes_block zero b q e p h s = absurd (omega arith)
becomes_block {l} {l'} (suc k) b q e p h s =
    let d : suc k - 1 ≡ k = omega arith in
    becomes-record k b (rw d at q) e (omega arith) s

-- one change after the other
pub becomes-then : {l l' l'' : List ℕ} {m : Memory} (f : Memory → Memory) → Becomes l l' m
    → Becomes l' l'' (f (memory_of l')) → Becomes l l'' (f m)
becomes-then f a b = record { view = b.view ∙ ap f a.view; exact = λ x. b.exact (a.exact x) }

pub becomes-as : {l l' : List ℕ} {m m' : Memory} → m ≡ m' → Becomes l l' m → Becomes l l' m'
becomes-as {l} {l'} e b = subst (Becomes l l') e b
