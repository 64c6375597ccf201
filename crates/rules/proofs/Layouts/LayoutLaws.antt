-- The bytes of memories that fit: their lengths, that they are bytes, and that reading them gives the memory back.
use Prim.Native.Nat.{ℕ, ◌+◌, ◌*◌, ◌<◌, ◌≤◌}
use native.Mathlib.Omega.{arith}
use mathlib.Core.Path.{◌≡◌, refl, ap, ap₂, ◌∙◌}
use mathlib.Core.Bool.{Bool, true, false}
use mathlib.Core.List.{List, [], ◌∷◌, ◌++◌, append-nil}
use lib.Dec.{eqb}
use lib.IntN.{ℤ, pos}
use lib.ListN.{length, get_or, length-append}
use mir.Syntax.{w64}
use mir.Val.{of_z}
use Rattle.rules.specs.Types.{Value, Block, Recorded, Cell}
use Rattle.rules.specs.Sizes.{name_count, cell_count, memory_length, observation_length, blocks_length}
use Rattle.rules.specs.Words.{digits, word_at, integer_at, flat}
use Rattle.rules.specs.Memory.{Memory, one}
use Rattle.rules.specs.Observation.{Observation}
use Rattle.rules.specs.Layout.{block_record, cell_record, block_bytes, cell_bytes, memory_image, recorded_bytes}
use Rattle.rules.specs.Layout.{mark_bytes, observation_image, block_place, cell_place, mark_place, block_from}
use Rattle.rules.specs.Layout.{block_at, cell_from, cell_at, memory_of, recorded_from, recorded_at, mark_at}
use Rattle.rules.specs.Layout.{observation_of, name_limit}
use Rattle.rules.specs.Numbers.{in_range}
use Rattle.rules.proofs.Lists.WordLaws.{digits_value, integer-value, Bytes, no_bytes, more_bytes, bytes-append}
use Rattle.rules.proofs.Lists.WordLaws.{bytes-digits}
use Rattle.rules.proofs.Lists.Rows.{tabulate-list, length-flat, row-byte, row_word}
use Rattle.rules.proofs.Lists.Lists.{all_get_d}
use Rattle.rules.specs.Fits.{FitsBlock, FitsRecorded, FitsCell, FitsMemory, FitsObservation, All, none, also}

-- ---- one record
length-record : (s first n : ℕ) → length (block_record s first n) ≡ 8
unfolding digits
length-record s first n = refl

pub length-block_bytes : (b : Block) → length (block_bytes b) ≡ 8
unfolding block_bytes
length-block_bytes Block.Unused = length-record 0 0 0
length-block_bytes (Block.Fixed first n) = length-record 1 first n
length-block_bytes (Block.Freeable first n) = length-record 2 first n
length-block_bytes Block.Dead = length-record 3 0 0

pub length-recorded_bytes : (b : Recorded) → length (recorded_bytes b) ≡ 8
unfolding recorded_bytes
length-recorded_bytes Recorded.Unused = length-record 0 0 0
length-recorded_bytes (Recorded.Live first n) = length-record 1 first n
length-recorded_bytes Recorded.Dead = length-record 2 0 0

pub length-cell_bytes : (c : Cell) → length (cell_bytes c) ≡ 16
unfolding cell_bytes digits
length-cell_bytes Cell.Free = refl
length-cell_bytes (Cell.Holds o Value.Undefined) = refl
length-cell_bytes (Cell.Holds o (Value.Integer z)) = refl
length-cell_bytes (Cell.Holds o (Value.Pointer p)) = refl

pub length-mark_bytes : (b : Bool) → length (mark_bytes b) ≡ 1
length-mark_bytes b = refl

first_back : (s first n : ℕ) → first < 65536 → word_at 2 (block_record s first n) 2 ≡ first
unfolding word_at digits
first_back s first n h = digits_value 2 first h

length_back : (s first n : ℕ) → n < 65536 → word_at 2 (block_record s first n) 4 ≡ n
unfolding word_at digits
length_back s first n h = digits_value 2 n h

pub block_back : (b : Block) → FitsBlock b
    → block_from (get_or (block_bytes b) 0 0) (word_at 2 (block_bytes b) 2) (word_at 2 (block_bytes b) 4) ≡ b
unfolding block_bytes
block_back Block.Unused h = refl
block_back (Block.Fixed first n) h =
    ap₂ Block.Fixed (first_back 1 first n h.0) (length_back 1 first n h.1)
block_back (Block.Freeable first n) h =
    ap₂ Block.Freeable (first_back 2 first n h.0) (length_back 2 first n h.1)
block_back Block.Dead h = refl

recorded-back : (b : Recorded) → FitsRecorded b
    → recorded_from (get_or (recorded_bytes b) 0 0) (word_at 2 (recorded_bytes b) 2) (word_at 2 (recorded_bytes b) 4) ≡ b
unfolding recorded_bytes
recorded-back Recorded.Unused h = refl
recorded-back (Recorded.Live first n) h =
    ap₂ Recorded.Live (first_back 1 first n h.0) (length_back 1 first n h.1)
recorded-back Recorded.Dead h = refl

module _ (k o n : ℕ) (z : ℤ) where
  owner-back : o < name_limit → word_at 2 (cell_record k o n z) 2 ≡ o
  unfolding word_at digits
  owner-back h = digits_value 2 o h

  name_back : n < name_limit → word_at 2 (cell_record k o n z) 4 ≡ n
  unfolding word_at digits
  name_back h = digits_value 2 n h

  number-back : in_range z ≡ true → integer_at (cell_record k o n z) 8 ≡ z
  unfolding word_at digits
  number-back h = integer-value z h

pub cell-back : (c : Cell) → FitsCell c
    → cell_from (get_or (cell_bytes c) 0 0) (word_at 2 (cell_bytes c) 2) (word_at 2 (cell_bytes c) 4)
    (integer_at (cell_bytes c) 8) ≡ c
unfolding cell_bytes
cell-back Cell.Free h = refl
cell-back (Cell.Holds o Value.Undefined) h =
    ap (λ (x : ℕ). Cell.Holds x Value.Undefined) (owner-back 1 o 0 (pos 0) h.0)
cell-back (Cell.Holds o (Value.Integer z)) h =
    ap₂ (λ (x : ℕ) (y : ℤ). Cell.Holds x (Value.Integer y)) (owner-back 2 o 0 z h.0) (number-back 2 o 0 z h.1)
cell-back (Cell.Holds o (Value.Pointer p)) h =
    let x = owner-back 3 o p.name p.offset h.0 in
    let y = name_back 3 o p.name p.offset h.1.0 in
    let z = number-back 3 o p.name p.offset h.1.1 in
    λ i. Cell.Holds (x i) (Value.Pointer (record { name = y i; offset = z i }))

-- 02 §5: "bytes 1, 6 and 7 are zero", in the bytes that start at a place
abbrev pub ZeroBytes : List ℕ → ℕ → Type 0
ZeroBytes l at = (get_or l (at + 1) 0 ≡ 0) × (get_or l (at + 6) 0 ≡ 0) × (get_or l (at + 7) 0 ≡ 0)

cell-zeros : (c : Cell) → ZeroBytes (cell_bytes c) 0
unfolding cell_bytes digits
cell-zeros Cell.Free = (refl, refl, refl)
cell-zeros (Cell.Holds o Value.Undefined) = (refl, refl, refl)
cell-zeros (Cell.Holds o (Value.Integer z)) = (refl, refl, refl)
cell-zeros (Cell.Holds o (Value.Pointer p)) = (refl, refl, refl)

mark-back : (b : Bool) → eqb (get_or (mark_bytes b) 0 0) 1 ≡ b
mark-back true = refl
mark-back false = refl

-- ---- lengths
pub length-memory_image : (m : Memory) → length m.blocks ≡ name_count → length m.cells ≡ cell_count
    → length (memory_image m) ≡ memory_length
unfolding memory_image
length-memory_image m e h =
    length-append (flat block_bytes m.blocks) (flat cell_bytes m.cells)
    ∙ omega (
      arith,
      length-flat block_bytes 8 length-block_bytes m.blocks,
      length-flat cell_bytes 16 length-cell_bytes m.cells,
    )

pub length-observation_image : (o : Observation) → length o.blocks ≡ name_count → length o.marks ≡ cell_count
    → length (observation_image o) ≡ observation_length
unfolding observation_image
length-observation_image o e h =
    length-append (flat recorded_bytes o.blocks) (flat mark_bytes o.marks)
    ∙ omega (
      arith,
      length-flat recorded_bytes 8 length-recorded_bytes o.blocks,
      length-flat mark_bytes 1 length-mark_bytes o.marks,
    )

-- ---- bytes
bytes-flat : {A : Type 0} (P : A → Type 0) (f : A → List ℕ) → ((x : A) → P x → Bytes (f x)) → {xs : List A} → All P xs
    → Bytes (flat f xs)
unfolding flat
bytes-flat P f g none = no_bytes
bytes-flat P f g (also h r) = bytes-append (g _ h) (bytes-flat P f g r)

bytes-record : (s first n : ℕ) → s < 256 → Bytes (block_record s first n)
bytes-record s first n h =
    let zero-byte : 0 < 256 = omega arith in
    more_bytes h (more_bytes zero-byte (bytes-append (bytes-append (bytes-digits 2 first) (bytes-digits 2 n))
    (more_bytes zero-byte (more_bytes zero-byte no_bytes))))

bytes-block : (b : Block) → FitsBlock b → Bytes (block_bytes b)
unfolding block_bytes
bytes-block Block.Unused h = bytes-record 0 0 0 (omega arith)
bytes-block (Block.Fixed first n) h = bytes-record 1 first n (omega arith)
bytes-block (Block.Freeable first n) h = bytes-record 2 first n (omega arith)
bytes-block Block.Dead h = bytes-record 3 0 0 (omega arith)

bytes-recorded : (b : Recorded) → FitsRecorded b → Bytes (recorded_bytes b)
unfolding recorded_bytes
bytes-recorded Recorded.Unused h = bytes-record 0 0 0 (omega arith)
bytes-recorded (Recorded.Live first n) h = bytes-record 1 first n (omega arith)
bytes-recorded Recorded.Dead h = bytes-record 2 0 0 (omega arith)

bytes-cell_record : (k o n : ℕ) (z : ℤ) → k < 256 → Bytes (cell_record k o n z)
bytes-cell_record k o n z h =
    let zero-byte : 0 < 256 = omega arith in
    more_bytes h (more_bytes zero-byte (bytes-append (bytes-append (bytes-digits 2 o) (bytes-digits 2 n))
    (more_bytes zero-byte (more_bytes zero-byte (bytes-digits 8 (of_z w64 z))))))

bytes-cell : (c : Cell) → FitsCell c → Bytes (cell_bytes c)
unfolding cell_bytes
bytes-cell Cell.Free h = bytes-cell_record 0 0 0 (pos 0) (omega arith)
bytes-cell (Cell.Holds o Value.Undefined) h = bytes-cell_record 1 o 0 (pos 0) (omega arith)
bytes-cell (Cell.Holds o (Value.Integer z)) h = bytes-cell_record 2 o 0 z (omega arith)
bytes-cell (Cell.Holds o (Value.Pointer p)) h = bytes-cell_record 3 o p.name p.offset (omega arith)

bytes-marks : (l : List Bool) → Bytes (flat mark_bytes l)
unfolding flat
bytes-marks [] = no_bytes
bytes-marks (b ∷ l) = more_bytes (byte b) (bytes-marks l)
  where
    byte : (b : Bool) → one b < 256
    byte true = omega arith
    byte false = omega arith

pub bytes-memory_image : (m : Memory) → FitsMemory m → Bytes (memory_image m)
unfolding memory_image
bytes-memory_image m h =
    bytes-append (bytes-flat FitsBlock block_bytes bytes-block h.blocks-fit)
    (bytes-flat FitsCell cell_bytes bytes-cell h.cells_fit)

pub bytes-observation_image : (o : Observation) → FitsObservation o → Bytes (observation_image o)
unfolding observation_image
bytes-observation_image o h =
    bytes-append (bytes-flat FitsRecorded recorded_bytes bytes-recorded h.records-fit) (bytes-marks o.marks)

-- ---- back
-- a block record of either memory, with bytes behind them all
record-back : {A : Type 0} (P : A → Type 0) (f : A → List ℕ) (from : ℕ → ℕ → ℕ → A) → ((x : A) → length (f x) ≡ 8)
    → ((x : A) → P x → from (get_or (f x) 0 0) (word_at 2 (f x) 2) (word_at 2 (f x) 4) ≡ x)
    → (xs : List A) (d : A) (behind : List ℕ) (k : ℕ) → All P xs → P d → k < length xs
    → from (get_or (flat f xs ++ behind) (block_place k) 0) (word_at 2 (flat f xs ++ behind) (block_place k + 2))
    (word_at 2 (flat f xs ++ behind) (block_place k + 4)) ≡ get_or xs k d
record-back P f from wide back xs d behind k all h l =
    let x = row-byte f 8 wide [] xs behind k d l (block_place k) 0 (omega arith) (omega arith) in
    let y = row_word f 8 wide [] xs behind k d l 2 (block_place k + 2) 2 (omega arith) (omega arith) in
    let z = row_word f 8 wide [] xs behind k d l 2 (block_place k + 4) 4 (omega arith) (omega arith) in
    rw (x, y, z) (back (get_or xs k d) (all_get_d all k d h))

pub records-length : {A : Type 0} (f : A → List ℕ) (xs : List A) → ((x : A) → length (f x) ≡ 8) → length xs ≡ name_count
    → length (flat f xs) ≡ name_count * 8
records-length f xs wide e = omega (arith, length-flat f 8 wide xs)

module _ (m : Memory) (fits : FitsMemory m) where
  pub image-block : (k : ℕ) → k < name_count → block_at (memory_image m) k ≡ get_or m.blocks k Block.Dead
  unfolding block_at memory_image
  image-block k h =
      record-back FitsBlock block_bytes block_from length-block_bytes block_back m.blocks Block.Dead
      (flat cell_bytes m.cells) k fits.blocks-fit tt (omega (arith, fits.block-count))

  -- byte k of cell i, and the number in its n bytes from k on
  module _ (i : ℕ) (h : i < cell_count) where
    cell-byte : (at k : ℕ) → at ≡ cell_place i + k → k < 16
        → get_or (memory_image m) at 0 ≡ get_or (cell_bytes (get_or m.cells i Cell.Free)) k 0
    unfolding memory_image
    cell-byte at k e l =
        let front : List ℕ = flat block_bytes m.blocks in
        let s = records-length block_bytes m.blocks length-block_bytes fits.block-count in
        rw (← append-nil (flat cell_bytes m.cells))
        (row-byte cell_bytes 16 length-cell_bytes front m.cells [] i Cell.Free (omega (arith, fits.cell-count)) at k
        (omega (arith, s)) l)

    cell-word : (n at k : ℕ) → at ≡ cell_place i + k → k + n ≤ 16
        → word_at n (memory_image m) at ≡ word_at n (cell_bytes (get_or m.cells i Cell.Free)) k
    unfolding memory_image
    cell-word n at k e l =
        let front : List ℕ = flat block_bytes m.blocks in
        let s = records-length block_bytes m.blocks length-block_bytes fits.block-count in
        rw (← append-nil (flat cell_bytes m.cells))
        (row_word cell_bytes 16 length-cell_bytes front m.cells [] i Cell.Free (omega (arith, fits.cell-count)) n at
        k (omega (arith, s)) l)

    pub image-cell : cell_at (memory_image m) i ≡ get_or m.cells i Cell.Free
    unfolding cell_at
    image-cell =
        let x = cell-byte (cell_place i) 0 (omega arith) (omega arith) in
        let y = cell-word 2 (cell_place i + 2) 2 refl (omega arith) in
        let z = cell-word 2 (cell_place i + 4) 4 refl (omega arith) in
        let w = cell-word 8 (cell_place i + 8) 8 refl (omega arith) in
        rw (x, y, z, w) (cell-back (get_or m.cells i Cell.Free) (all_get_d fits.cells_fit i Cell.Free tt))

    pub image-zeros : ZeroBytes (memory_image m) (cell_place i)
    image-zeros =
        let c = cell-zeros (get_or m.cells i Cell.Free) in (
          cell-byte (cell_place i + 1) 1 refl (omega arith) ∙ c.0,
          cell-byte (cell_place i + 6) 6 refl (omega arith) ∙ c.1,
          cell-byte (cell_place i + 7) 7 refl (omega arith) ∙ c.2,
        )

  pub memory-back : memory_of (memory_image m) ≡ m
  unfolding memory_of
  memory-back = λ t. record {
    blocks = tabulate-list name_count (block_at (memory_image m)) m.blocks Block.Dead fits.block-count image-block t;
    cells = tabulate-list cell_count (cell_at (memory_image m)) m.cells Cell.Free fits.cell-count image-cell t;
  }

module _ (o : Observation) (fits : FitsObservation o) where
  pub image-recorded : (k : ℕ) → k < name_count → recorded_at (observation_image o) k ≡ get_or o.blocks k Recorded.Dead
  unfolding recorded_at observation_image
  image-recorded k h =
      record-back FitsRecorded recorded_bytes recorded_from length-recorded_bytes recorded-back o.blocks Recorded.Dead
      (flat mark_bytes o.marks) k fits.records-fit tt (omega (arith, fits.record-count))

  pub image-mark-byte : (i : ℕ) → i < cell_count
      → get_or (observation_image o) (mark_place i) 0 ≡ one (get_or o.marks i false)
  unfolding observation_image
  image-mark-byte i h =
      let front : List ℕ = flat recorded_bytes o.blocks in
      let l : i < length o.marks = omega (arith, fits.mark-count) in
      let s : length front ≡ blocks_length =
      records-length recorded_bytes o.blocks length-recorded_bytes fits.record-count in
      let e = append-nil (flat mark_bytes o.marks) in
      let x = row-byte mark_bytes 1 length-mark_bytes front o.marks [] i false l
      (mark_place i) 0 (omega arith) (omega arith) in
      rw (← e) x

  pub image-mark : (i : ℕ) → i < cell_count → mark_at (observation_image o) i ≡ get_or o.marks i false
  unfolding mark_at
  image-mark i h = rw (image-mark-byte i h) (mark-back (get_or o.marks i false))

  pub observation-back : observation_of (observation_image o) ≡ o
  unfolding observation_of
  observation-back = λ t. record {
    blocks = tabulate-list name_count (recorded_at (observation_image o)) o.blocks Recorded.Dead fits.record-count
        image-recorded t;
    marks = tabulate-list cell_count (mark_at (observation_image o)) o.marks false fits.mark-count image-mark t;
  }
