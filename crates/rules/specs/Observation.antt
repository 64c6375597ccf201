-- The observation memory and its nine calls: store block, delete block, initialise, five queries, and whether a block is
-- live.
use Rattle.std.specs.Prelude.{ℕ, zero, suc, ◌+◌, Bool, true, false, not, ◌&&◌, List, [], ◌∷◌, map, ltb, leb, ℤ, pos}
use Rattle.std.specs.Prelude.{negsuc, get_or, set, replicate, Err, None, Ok, Some}
use Rattle.rules.specs.Types.{Pointer, Value, Evaluated, Located, Search, Recorded, Miss, Stop}
use Rattle.rules.specs.Sizes.{name_count, cell_count}
use Rattle.rules.specs.Trees.{Query}
use Rattle.rules.specs.Memory.{Memory, recorded_of, is_live, named, located_in, lowest_run, fill, on_integer, set_named}
use Rattle.rules.specs.Memory.{on_pointer}
use Rattle.rules.specs.Evaluation.{is_initialised, queried}

-- block records by name from 1, marks from 0: "1 for initialised"
pub record Observation : Type 0 where
  pub blocks : List Recorded
  pub marks : List Bool

abbrev pub record_of : Observation → ℕ → Recorded
record_of o k = named o.blocks k Recorded.Dead

abbrev pub is_marked : Observation → ℕ → Bool
is_marked o i = get_or o.marks i false

-- a mark is free where it lies in no live block
abbrev pub covers : Recorded → ℕ → Bool
covers Recorded.Unused i = false
covers (Recorded.Live first n) i = leb first i && ltb i (first + n)
covers Recorded.Dead i = false

unfoldable pub covered : List Recorded → ℕ → Bool
covered [] i = false
covered (b ∷ bs) i = elim (covers b i) [ true ↦ true | false ↦ covered bs i ]

-- "placed by the same lowest-run rule"
abbrev pub mark_run : Observation → ℕ → Search
mark_run o n = lowest_run (λ i. not (covered o.blocks i)) n

-- a call's change of the memory, or its ending
pub data Noted : Type 0 where
  noted : Observation → Noted
  refused : Stop → Noted

abbrev pub with_marks : Observation → ℕ → Recorded → ℕ → ℕ → Observation
with_marks o k b first n = record { blocks = set_named o.blocks k b; marks = fill o.marks first n false }

-- "48 .. store not at offset 0, of a known name, below 1 or without marks": a name from 1 on that is unused
abbrev pub store_at : Observation → ℕ → ℕ → Recorded → Search → Noted
store_at o k n Recorded.Unused None = refused Stop.Contradiction
store_at o k n Recorded.Unused (Some first) = noted (with_marks o k (Recorded.Live first n) first n)
store_at o k n (Recorded.Live first l) run = refused Stop.Contradiction
store_at o k n Recorded.Dead run = refused Stop.Contradiction

abbrev pub store_sized : Observation → ℕ → ℤ → ℤ → Noted
store_sized o k (pos zero) (pos (suc n)) = store_at o k (suc n) (record_of o k) (mark_run o (suc n))
store_sized o k (pos zero) (pos zero) = refused Stop.Contradiction
store_sized o k (pos zero) (negsuc n) = refused Stop.Contradiction
store_sized o k (pos (suc i)) z = refused Stop.Contradiction
store_sized o k (negsuc i) z = refused Stop.Contradiction

abbrev pub store_block : Observation → Value → Value → Noted
store_block o v w =
    on_pointer v refused (λ p. on_integer w refused (λ z. store_sized o p.name p.offset z))

-- "48 .. delete not at offset 0 of a live block"
abbrev pub delete_at : Observation → ℕ → Recorded → Noted
delete_at o k Recorded.Unused = refused Stop.Contradiction
delete_at o k (Recorded.Live first n) = noted (with_marks o k Recorded.Dead first n)
delete_at o k Recorded.Dead = refused Stop.Contradiction

abbrev pub delete_from : Observation → ℕ → ℤ → Noted
delete_from o k (pos zero) = delete_at o k (record_of o k)
delete_from o k (pos (suc i)) = refused Stop.Contradiction
delete_from o k (negsuc i) = refused Stop.Contradiction

abbrev pub delete_block : Observation → Value → Noted
delete_block o v = on_pointer v refused (λ p. delete_from o p.name p.offset)

-- "48 .. initialise outside one"
abbrev pub locate_mark : Observation → Pointer → Located
locate_mark o p = located_in (record_of o p.name) p.offset

abbrev pub mark_at : Observation → Located → Noted
mark_at o (Ok i) = noted (record { blocks = o.blocks; marks = set o.marks i true })
mark_at o (Err Miss.Dead) = refused Stop.Contradiction
mark_at o (Err Miss.Outside) = refused Stop.Contradiction

abbrev pub initialise : Observation → Value → Noted
initialise o v = on_pointer v refused (λ p. mark_at o (locate_mark o p))

-- 02 §4: "kind 63 asks the observation memory, a ninth call beside the eight of document 01"
abbrev pub live_record : Observation → ℕ → Bool
live_record o k = is_live (record_of o k)

-- the five queries
abbrev pub query_observation : Query → Observation → Value → Evaluated
query_observation q o v =
    on_pointer v Err (λ p. queried q (record_of o p.name) (λ i. is_marked o i) p)

abbrev pub empty_observation : Observation
empty_observation = record { blocks = replicate name_count Recorded.Unused; marks = replicate cell_count false }

-- "The watched run starts with both input blocks recorded there and all their cells marked": through the calls.
-- A call that is refused leaves the memory as it is; at the start none is.
abbrev pub pointer_to : ℕ → ℕ → Value
pointer_to k i = Value.Pointer (record { name = k; offset = pos i })

abbrev pub kept : Observation → Noted → Observation
kept o (noted o₁) = o₁
kept o (refused k) = o

abbrev pub record_block : Observation → ℕ → ℕ → Observation
record_block o k n = kept o (store_block o (pointer_to k 0) (Value.Integer (pos n)))

abbrev pub mark_cell : Observation → ℕ → ℕ → Observation
mark_cell o k i = kept o (initialise o (pointer_to k i))

-- cells 0 .. n - 1 of block k marked
unfoldable pub mark_all : Observation → ℕ → ℕ → Observation
mark_all o k zero = o
mark_all o k (suc n) = mark_cell (mark_all o k n) k n

abbrev pub start_observation : ℕ → Observation
start_observation n = mark_all (record_block (mark_all (record_block empty_observation 1 1) 1 1) 2 n) 2 n

-- what the observation memory is to say of an execution memory: "For its block states 0, 1, 2, 3 the observation states
-- are 0, 1, 1, 2, with equal first and length; mark i is 1 where cell i holds an integer or pointer, else 0."
abbrev pub mirror : Memory → Observation
mirror m = record { blocks = map recorded_of m.blocks; marks = map is_initialised m.cells }
