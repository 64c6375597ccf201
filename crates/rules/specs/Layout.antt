-- The bytes of both memories, and back.
use Rattle.std.specs.Prelude.{ℕ, zero, suc, ◌+◌, ◌*◌, Bool, List, [], ◌∷◌, ◌++◌, eqb, ℤ, pos, get_or}
use Rattle.rules.specs.Types.{Value, Block, Recorded, Cell}
use Rattle.rules.specs.Sizes.{name_count, cell_count, blocks_length}
use Rattle.rules.specs.Words.{digits, word_at, integer_at, integer_bytes, flat, tabulate}
use Rattle.rules.specs.Memory.{Memory, one}
use Rattle.rules.specs.Observation.{Observation}

-- "block records of 8 bytes (state ..; 0; first cell in two bytes; length in two; 0, 0)"
abbrev pub block_record : ℕ → ℕ → ℕ → List ℕ
block_record state first n = state ∷ 0 ∷ digits 2 first ++ digits 2 n ++ 0 ∷ 0 ∷ []

-- "0 unused, 1 live and fixed, 2 live and freeable, 3 dead"; "A dead block has first and length 0"
unfoldable pub block_bytes : Block → List ℕ
block_bytes Block.Unused = block_record 0 0 0
block_bytes (Block.Fixed first n) = block_record 1 first n
block_bytes (Block.Freeable first n) = block_record 2 first n
block_bytes Block.Dead = block_record 3 0 0

-- "then 1,024 cells of 16 (kind ..; integer or offset in 8)". 02 §5: "the owner takes bytes 2–3 and the pointed-to name
-- bytes 4–5; bytes 1, 6 and 7 are zero"
abbrev pub cell_record : ℕ → ℕ → ℕ → ℤ → List ℕ
cell_record kind owner name z = kind ∷ 0 ∷ digits 2 owner ++ digits 2 name ++ 0 ∷ 0 ∷ integer_bytes z

-- an owner and a pointed-to name have two bytes each
abbrev pub name_limit : ℕ
name_limit = 65536

-- "0 free, 1 undefined, 2 integer, 3 pointer"; "a free cell is all zero, and so is any part that a cell's kind has no
-- use for"
unfoldable pub cell_bytes : Cell → List ℕ
cell_bytes Cell.Free = cell_record 0 0 0 (pos 0)
cell_bytes (Cell.Holds o Value.Undefined) = cell_record 1 o 0 (pos 0)
cell_bytes (Cell.Holds o (Value.Integer z)) = cell_record 2 o 0 z
cell_bytes (Cell.Holds o (Value.Pointer p)) = cell_record 3 o p.name p.offset

unfoldable pub memory_image : Memory → List ℕ
memory_image m = flat block_bytes m.blocks ++ flat cell_bytes m.cells

-- "block records (state 0 unused, 1 live, 2 dead; rest alike, first counting marks)"
unfoldable pub recorded_bytes : Recorded → List ℕ
recorded_bytes Recorded.Unused = block_record 0 0 0
recorded_bytes (Recorded.Live first n) = block_record 1 first n
recorded_bytes Recorded.Dead = block_record 2 0 0

-- "then 1,024 marks of one byte, 1 for initialised"
abbrev pub mark_bytes : Bool → List ℕ
mark_bytes b = one b ∷ []

unfoldable pub observation_image : Observation → List ℕ
observation_image o = flat recorded_bytes o.blocks ++ flat mark_bytes o.marks

-- where block record k, counted from 0, cell i and mark i stand
abbrev pub block_place : ℕ → ℕ
block_place k = k * 8

abbrev pub cell_place : ℕ → ℕ
cell_place i = blocks_length + i * 16

abbrev pub mark_place : ℕ → ℕ
mark_place i = blocks_length + i

-- what bytes stand for
abbrev pub block_from : ℕ → ℕ → ℕ → Block
block_from zero first n = Block.Unused
block_from (suc zero) first n = Block.Fixed first n
block_from (suc (suc zero)) first n = Block.Freeable first n
block_from (suc (suc (suc s))) first n = Block.Dead

unfoldable pub block_at : List ℕ → ℕ → Block
block_at l k =
    block_from (get_or l (block_place k) 0) (word_at 2 l (block_place k + 2)) (word_at 2 l (block_place k + 4))

abbrev pub cell_from : ℕ → ℕ → ℕ → ℤ → Cell
cell_from zero o n z = Cell.Free
cell_from (suc zero) o n z = Cell.Holds o Value.Undefined
cell_from (suc (suc zero)) o n z = Cell.Holds o (Value.Integer z)
cell_from (suc (suc (suc k))) o n z = Cell.Holds o (Value.Pointer (record { name = n; offset = z }))

unfoldable pub cell_at : List ℕ → ℕ → Cell
cell_at l i =
    cell_from (get_or l (cell_place i) 0) (word_at 2 l (cell_place i + 2)) (word_at 2 l (cell_place i + 4))
    (integer_at l (cell_place i + 8))

unfoldable pub memory_of : List ℕ → Memory
memory_of l = record { blocks = tabulate 0 name_count (block_at l); cells = tabulate 0 cell_count (cell_at l) }

abbrev pub recorded_from : ℕ → ℕ → ℕ → Recorded
recorded_from zero first n = Recorded.Unused
recorded_from (suc zero) first n = Recorded.Live first n
recorded_from (suc (suc s)) first n = Recorded.Dead

unfoldable pub recorded_at : List ℕ → ℕ → Recorded
recorded_at l k =
    recorded_from (get_or l (block_place k) 0) (word_at 2 l (block_place k + 2)) (word_at 2 l (block_place k + 4))

unfoldable pub mark_at : List ℕ → ℕ → Bool
mark_at l i = eqb (get_or l (mark_place i) 0) 1

unfoldable pub observation_of : List ℕ → Observation
observation_of l = record { blocks = tabulate 0 name_count (recorded_at l); marks = tabulate 0 cell_count (mark_at l) }
