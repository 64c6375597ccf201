-- Memories whose numbers fit their places in the layout.
use Rattle.std.specs.Prelude.{ℕ, ◌+◌, ◌≤◌, ◌<◌, true, ◌≡◌, length, List, [], ◌∷◌, None, Some}
use Rattle.rules.specs.Types.{Pointer, Value, Block, Recorded, Cell, Temporary}
use Rattle.rules.specs.Sizes.{name_count, cell_count}
use Rattle.rules.specs.Layout.{name_limit}
use Rattle.rules.specs.Numbers.{in_range}
use Rattle.rules.specs.Memory.{Memory, recorded_of}
use Rattle.rules.specs.Observation.{Observation}
use Rattle.rules.specs.Evaluation.{Variables}

-- a predicate of every element of a list
pub data All {A : Type 0} (P : A → Type 0) : List A → Type 0 where
  none : All P []
  also : {x : A} {xs : List A} → P x → All P xs → All P (x ∷ xs)

-- a name that a cell holds, a first cell or a length in two bytes
abbrev pub FitsName : ℕ → Type 0
FitsName k = k < name_limit

abbrev pub FitsPlaces : ℕ → ℕ → Type 0
FitsPlaces first n = (first < 65536) × (n < 65536)

abbrev pub FitsPointer : Pointer → Type 0
FitsPointer p = FitsName p.name × (in_range p.offset ≡ true)

abbrev pub FitsValue : Value → Type 0
FitsValue Value.Undefined = Unit {0}
FitsValue (Value.Integer z) = in_range z ≡ true
FitsValue (Value.Pointer p) = FitsPointer p

abbrev pub FitsBlock : Block → Type 0
FitsBlock Block.Unused = Unit {0}
FitsBlock (Block.Fixed first n) = FitsPlaces first n
FitsBlock (Block.Freeable first n) = FitsPlaces first n
FitsBlock Block.Dead = Unit {0}

abbrev pub FitsRecorded : Recorded → Type 0
FitsRecorded Recorded.Unused = Unit {0}
FitsRecorded (Recorded.Live first n) = FitsPlaces first n
FitsRecorded Recorded.Dead = Unit {0}

abbrev pub FitsCell : Cell → Type 0
FitsCell Cell.Free = Unit {0}
FitsCell (Cell.Holds o v) = FitsName o × FitsValue v

abbrev pub FitsTemporary : Temporary → Type 0
FitsTemporary None = Unit {0}
FitsTemporary (Some v) = FitsValue v

pub record FitsMemory (m : Memory) : Type 0 where
  pub block-count : length m.blocks ≡ name_count
  pub cell-count : length m.cells ≡ cell_count
  pub blocks-fit : All FitsBlock m.blocks
  pub cells_fit : All FitsCell m.cells

pub record FitsObservation (o : Observation) : Type 0 where
  pub record-count : length o.blocks ≡ name_count
  pub mark-count : length o.marks ≡ cell_count
  pub records-fit : All FitsRecorded o.blocks

-- and whose live blocks lie inside the cells, as those of every run do
abbrev pub InsideRecorded : Recorded → Type 0
InsideRecorded Recorded.Unused = Unit {0}
InsideRecorded (Recorded.Live first n) = first + n ≤ cell_count
InsideRecorded Recorded.Dead = Unit {0}

abbrev pub InsideBlock : Block → Type 0
InsideBlock b = InsideRecorded (recorded_of b)

pub record InsideMemory (m : Memory) : Type 0 where
  pub memory-fits : FitsMemory m
  pub blocks-inside : All InsideBlock m.blocks

pub record InsideObservation (o : Observation) : Type 0 where
  pub observation-fits : FitsObservation o
  pub records-inside : All InsideRecorded o.blocks

-- the blocks of all variables have names that fit
abbrev pub VariablesFit : Variables → Type 0
VariablesFit ρ = (x : ℕ) → FitsName (ρ x)
