-- What a change of the execution memory is to its bytes, and what it answers.
use Rattle.std.specs.Prelude.{ℕ, ◌<◌, ◌≡◌, List, replicate, Result, Ok, Err}
use Rattle.std.specs.Int.{w64}
use Rattle.std.proofs.Common.{SFits}
use Rattle.rules.specs.Sizes.{name_count, cell_count}
use Rattle.rules.specs.Memory.{Memory, Change, changed, stopped, set_named}
use Rattle.rules.specs.Layout.{memory_of, memory_image, name_limit}
use Rattle.rules.specs.declared.{Value.Value, Stop.Stop, Block.Block, Cell.Cell}

-- bytes that are exactly those of what they stand for
abbrev pub Exact : List ℕ → Type 0
Exact l = l ≡ memory_image (memory_of l)

-- the bytes now stand for m, and are exact if they were exact before
pub record Becomes (entry exit : List ℕ) (m : Memory) : Type 0 where
  pub view : memory_of exit ≡ m
  pub exact : Exact entry → Exact exit

-- whether a change stops the run, and the memory after it
abbrev pub change_result : Change Memory → Result Unit Stop
change_result (changed m) = Ok tt
change_result (stopped k m) = Err k

abbrev pub change_memory : Change Memory → Memory
change_memory (changed m) = m
change_memory (stopped k m) = m

-- one block record of a memory is another
abbrev pub set_block : Memory → ℕ → Block → Memory
set_block m k b = record { blocks = set_named m.blocks k b; cells = m.cells }

abbrev pub empty_memory : Memory
empty_memory = record { blocks = replicate name_count Block.Unused; cells = replicate cell_count Cell.Free }

-- numbers that the code's types hold
abbrev pub ValueHeld : Value → Type 0
ValueHeld Value.Undefined = Unit {0}
ValueHeld (Value.Integer z) = SFits w64 z
ValueHeld (Value.Pointer p) = (p.name < name_limit) × SFits w64 p.offset

abbrev pub CellHeld : Cell → Type 0
CellHeld Cell.Free = Unit {0}
CellHeld (Cell.Holds o v) = (o < name_limit) × ValueHeld v

abbrev pub BlockHeld : Block → Type 0
BlockHeld Block.Unused = Unit {0}
BlockHeld (Block.Fixed first n) = (first < 65536) × (n < 65536)
BlockHeld (Block.Freeable first n) = (first < 65536) × (n < 65536)
BlockHeld Block.Dead = Unit {0}
