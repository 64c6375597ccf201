-- The execution memory: its blocks and cells, and what a statement does to them.
use Rattle.std.specs.Prelude.{ℕ, zero, suc, ◌+◌, ◌-◌, Bool, true, false, cond, List, [], ◌∷◌, ◌++◌, map, ltb, ℤ, pos}
use Rattle.std.specs.Prelude.{negsuc, length, get_or, set, replicate, Err, None, Ok, Some}
use Rattle.rules.specs.Types.{Pointer, Value, Evaluated, Found, Located, Search, Block, Recorded, Cell, Miss, Stop}
use Rattle.rules.specs.Sizes.{name_count, cell_count}
use Rattle.rules.specs.Checker.{lowest}

-- a block of 42 is freeable, that of a let is fixed
abbrev pub Use : Type 0
Use = Rattle.rules.specs.declared.Use.Use

pattern abbrev pub fixed : Use
fixed = Rattle.rules.specs.declared.Use.TheVariants.Fixed

pattern abbrev pub freeable : Use
freeable = Rattle.rules.specs.declared.Use.TheVariants.Freeable

-- block records by name from 1, cells from 0
pub record Memory : Type 0 where
  pub blocks : List Block
  pub cells : List Cell

-- what both memories ask of a block: whether it is live, and where
abbrev pub recorded_of : Block → Recorded
recorded_of Block.Unused = Recorded.Unused
recorded_of (Block.Fixed first n) = Recorded.Live first n
recorded_of (Block.Freeable first n) = Recorded.Live first n
recorded_of Block.Dead = Recorded.Dead

abbrev pub is_live : Recorded → Bool
is_live Recorded.Unused = false
is_live (Recorded.Live first n) = true
is_live Recorded.Dead = false

-- a list's element by a name: names count from 1, and d stands for a name that has no record
abbrev pub named : {A : Type 0} → List A → ℕ → A → A
named l zero d = d
named l (suc k) d = get_or l k d

abbrev pub set_named : {A : Type 0} → List A → ℕ → A → List A
set_named l zero x = l
set_named l (suc k) x = set l k x

abbrev pub block_of : Memory → ℕ → Block
block_of m k = named m.blocks k Block.Dead

-- 02 §4: "an expression, there too, asks the execution memory"
abbrev pub live_block : Memory → ℕ → Bool
live_block m k = is_live (recorded_of (block_of m k))

abbrev pub cell_of : Memory → ℕ → Cell
cell_of m i = get_or m.cells i Cell.Free

-- "Valid: the block is live and the offset inside."
abbrev pub located_in : Recorded → ℤ → Located
located_in Recorded.Unused o = Err Miss.Dead
located_in (Recorded.Live first n) (pos o) = cond (ltb o n) (Ok (first + o)) (Err Miss.Outside)
located_in (Recorded.Live first n) (negsuc o) = Err Miss.Outside
located_in Recorded.Dead o = Err Miss.Dead

unfoldable pub locate : Memory → Pointer → Located
locate m p = located_in (recorded_of (block_of m p.name)) p.offset

-- at a cell's reading and storing. 02 §2: "42 means that the block is dead", "50, offset outside a live block, found
-- after 42"
abbrev pub at_cell : {A : Type 0} → (ℕ → A) → (Stop → A) → Located → A
at_cell at stop (Ok i) = at i
at_cell at stop (Err Miss.Dead) = stop Stop.DeadBlock
at_cell at stop (Err Miss.Outside) = stop Stop.OutsideBlock

-- "41 undefined cell read"; no pointer leads to a free cell
abbrev pub defined : Cell → Evaluated
defined Cell.Free = Err Stop.UndefinedCell
defined (Cell.Holds o Value.Undefined) = Err Stop.UndefinedCell
defined (Cell.Holds o (Value.Integer z)) = Ok (Value.Integer z)
defined (Cell.Holds o (Value.Pointer p)) = Ok (Value.Pointer p)

abbrev pub read_cell : Memory → Pointer → Evaluated
read_cell m p = at_cell (λ i. defined (cell_of m i)) Err (locate m p)

-- a change of a run's state, the memory or what holds it, or a stop with the state as it is then
pub data Change (S : Type 0) : Type 0 where
  changed : S → Change S
  stopped : Stop → S → Change S

-- a change of the memory in a state that takes it
abbrev pub change_in : {S : Type 0} → (Memory → S) → Change Memory → Change S
change_in put (changed m) = changed (put m)
change_in put (stopped c m) = stopped c (put m)

-- a store keeps the cell's owner
abbrev pub set_cell : Memory → ℕ → Cell → Memory
set_cell m i c = record { blocks = m.blocks; cells = set m.cells i c }

abbrev pub store_cell : Memory → Pointer → Value → Change Memory
store_cell m p v =
    at_cell (λ i. changed (set_cell m i (Cell.Holds p.name v))) (λ k. stopped k m) (locate m p)

-- "A block gets the lowest run of free cells that holds it": n places from s on are free
unfoldable pub all_free : (ℕ → Bool) → ℕ → ℕ → Bool
all_free p s zero = true
all_free p s (suc n) = elim (p s) [ true ↦ all_free p (suc s) n | false ↦ false ]

unfoldable pub lowest_run : (ℕ → Bool) → ℕ → Search
lowest_run p n = lowest (λ s. all_free p s n) 0 (suc cell_count - n)

abbrev pub is_free : Cell → Bool
is_free Cell.Free = true
is_free (Cell.Holds o v) = false

abbrev pub free_run : Memory → ℕ → Search
free_run m n = lowest_run (λ i. is_free (cell_of m i)) n

-- "Block names .. are given in rising order and never again." 02 §5: "Names run from 1 to 4,095."
abbrev pub is_unused : Block → Bool
is_unused Block.Unused = true
is_unused (Block.Fixed first n) = false
is_unused (Block.Freeable first n) = false
is_unused Block.Dead = false

abbrev pub next_name : Memory → Search
next_name m = lowest (λ k. is_unused (block_of m k)) 1 name_count

-- n places from s on take x
abbrev pub fill : {A : Type 0} → List A → ℕ → ℕ → A → List A
fill [] s n x = []
fill (y ∷ ys) zero zero x = y ∷ ys
fill (y ∷ ys) zero (suc n) x = x ∷ fill ys zero n x
fill (y ∷ ys) (suc s) n x = y ∷ fill ys s n x

abbrev pub block_for : Use → ℕ → ℕ → Block
block_for fixed first n = Block.Fixed first n
block_for freeable first n = Block.Freeable first n

abbrev pub with_block : Memory → Use → ℕ → ℕ → ℕ → Memory
with_block m u k first n = record {
  blocks = set_named m.blocks k (block_for u first n);
  cells = fill m.cells first n (Cell.Holds k Value.Undefined);
}

-- a new block's name and the state with it, or "31 all names given", then "30 no run of free cells long enough"
pub data Made (S : Type 0) : Type 0 where
  made : ℕ → S → Made S
  unmade : Stop → Made S

abbrev pub made_in : {S : Type 0} → (Memory → S) → Made Memory → Made S
made_in put (made k m) = made k (put m)
made_in put (unmade c) = unmade c

abbrev pub make_at : Memory → Use → ℕ → Search → Search → Made Memory
make_at m u n None run = unmade Stop.NamesGiven
make_at m u n (Some k) None = unmade Stop.NoRun
make_at m u n (Some k) (Some first) = made k (with_block m u k first n)

abbrev pub make_block : Memory → Use → ℕ → Made Memory
make_block m u n = make_at m u n (next_name m) (free_run m n)

-- a block's end: its cells are free again, its name is dead
abbrev pub without_cells : Memory → ℕ → Recorded → Memory
without_cells m k Recorded.Unused = m
without_cells m k (Recorded.Live first n) = record {
  blocks = set_named m.blocks k Block.Dead;
  cells = fill m.cells first n Cell.Free;
}
without_cells m k Recorded.Dead = m

abbrev pub end_block : Memory → ℕ → Memory
end_block m k = without_cells m k (recorded_of (block_of m k))

-- by what evaluating gave
abbrev pub on_value : {A : Type 0} → Evaluated → (Stop → A) → (Value → A) → A
on_value (Ok v) stop next = next v
on_value (Err k) stop next = stop k

abbrev pub on_place : {A : Type 0} → Found → (Stop → A) → (Pointer → A) → A
on_place (Ok p) stop next = next p
on_place (Err k) stop next = stop k

-- by the sort of a value: "40 wrong sort of value"
abbrev pub on_integer : {A : Type 0} → Value → (Stop → A) → (ℤ → A) → A
on_integer Value.Undefined stop next = stop Stop.WrongSort
on_integer (Value.Integer z) stop next = next z
on_integer (Value.Pointer p) stop next = stop Stop.WrongSort

abbrev pub on_pointer : {A : Type 0} → Value → (Stop → A) → (Pointer → A) → A
on_pointer Value.Undefined stop next = stop Stop.WrongSort
on_pointer (Value.Integer z) stop next = stop Stop.WrongSort
on_pointer (Value.Pointer p) stop next = next p

-- "41 place A takes expression B"
abbrev pub assigned : Memory → Found → Evaluated → Change Memory
assigned m f e = on_place f (λ k. stopped k m) (λ p. on_value e (λ k. stopped k m) (λ v. store_cell m p v))

-- "Statement 42 makes the block first and then stores the pointer."
abbrev pub store_new : Memory → Pointer → Made Memory → Change Memory
store_new m p (made k m₁) = store_cell m₁ p (Value.Pointer (record { name = k; offset = pos 0 }))
store_new m p (unmade c) = stopped c m

-- "45 size below 1"; "at a new block 45, 31, 30 after 40"
abbrev pub new_of_size : Memory → Pointer → ℤ → Change Memory
new_of_size m p (pos zero) = stopped Stop.SizeBelowOne m
new_of_size m p (pos (suc n)) = store_new m p (make_block m freeable (suc n))
new_of_size m p (negsuc n) = stopped Stop.SizeBelowOne m

-- "42 place A takes a new block of B cells"
abbrev pub allocated : Memory → Found → Evaluated → Change Memory
allocated m f e =
    on_place f (λ k. stopped k m) (λ p.
    on_value e (λ k. stopped k m) (λ v.
    on_integer v (λ k. stopped k m) (λ z. new_of_size m p z)))

-- "46 free of a pointer to anything but the first cell of a live freeable block"
abbrev pub free_of : Memory → ℕ → Block → Change Memory
free_of m k Block.Unused = stopped Stop.WrongFree m
free_of m k (Block.Fixed first n) = stopped Stop.WrongFree m
free_of m k (Block.Freeable first n) = changed (end_block m k)
free_of m k Block.Dead = stopped Stop.WrongFree m

abbrev pub free_at : Memory → ℕ → ℤ → Change Memory
free_at m k (pos zero) = free_of m k (block_of m k)
free_at m k (pos (suc o)) = stopped Stop.WrongFree m
free_at m k (negsuc o) = stopped Stop.WrongFree m

abbrev pub freed : Memory → Evaluated → Change Memory
freed m e =
    on_value e (λ k. stopped k m) (λ v.
    on_pointer v (λ k. stopped k m) (λ p. free_at m p.name p.offset))

-- the number of free cells
abbrev pub one : Bool → ℕ
one true = 1
one false = 0

unfoldable pub count_free : List Cell → ℕ
count_free [] = 0
count_free (c ∷ cs) = one (is_free c) + count_free cs

-- "block 1 is its cell, pointing to block 2, which holds the inputs .. Neither can be freed."
unfoldable pub start_memory : List ℤ → Memory
start_memory inputs = record {
  blocks = Block.Fixed 0 1 ∷ Block.Fixed 1 (length inputs) ∷ replicate (name_count - 2) Block.Unused;
  cells =
      Cell.Holds 1 (Value.Pointer (record { name = 2; offset = pos 0 }))
      ∷ (map (λ z. Cell.Holds 2 (Value.Integer z)) inputs ++ replicate (cell_count - 1 - length inputs) Cell.Free);
}
