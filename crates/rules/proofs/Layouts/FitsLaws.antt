-- What is done to memories that fit leaves them so; and both memories fit at the start.
use Prim.Native.Nat.{ℕ, suc, ◌+◌, ◌-◌, ◌≤◌, ◌<◌}
use native.Mathlib.Omega.{arith}
use mathlib.Core.Bool.{Bool, true, false, cond}
use mathlib.Core.Path.{◌≡◌, refl, ap, ◌∙◌, subst}
use mathlib.Core.List.{List, ◌++◌, map}
use lib.Dec.{ltb}
use lib.IntN.{ℤ, pos, negsuc}
use borrow.Author.Tests.{ltb-true}
use lib.ListN.{length, set, replicate, length-append, length-map, length-replicate, length-set}
use Rattle.std.specs.Prelude.{Err, Ok, Some}
use Rattle.rules.specs.Types.{Pointer, Value, Located, Block, Recorded, Cell, Miss}
use Rattle.rules.specs.Sizes.{name_count, cell_count, input_limit}
use Rattle.rules.specs.Numbers.{in_range}
use Rattle.rules.specs.Memory.{Memory, recorded_of, block_of, locate, located_in, set_cell}
use Rattle.rules.specs.Memory.{is_unused, next_name, Use, fixed, freeable, block_for, with_block, without_cells}
use Rattle.rules.specs.Memory.{end_block, start_memory}
use Rattle.rules.specs.Observation.{Observation, record_of, locate_mark, with_marks}
use Rattle.rules.proofs.Lists.SearchLaws.{Outcome, lowest-outcome}
use Rattle.rules.proofs.Lists.Lists.{all_set, all-fill, all_append, all_replicate, all_named}
use Rattle.rules.proofs.Lists.Lists.{all-set_named}
use Rattle.rules.proofs.Lists.Lists.{all_map, length-fill, length-set_named}
use Rattle.rules.specs.Fits.{FitsName, FitsPlaces, FitsBlock, FitsRecorded, FitsCell, FitsMemory, All, also}
use Rattle.rules.specs.Fits.{FitsObservation, InsideRecorded, InsideBlock, InsideMemory}
use Rattle.rules.specs.Fits.{InsideObservation}

-- ---- what a search finds is in range
pub next_name-fits : (m : Memory) (k : ℕ) → next_name m ≡ Some k → FitsName k
next_name-fits m k e =
    let h = subst (Outcome (λ j. is_unused (block_of m j)) 1 name_count) e (lowest-outcome _ 1 name_count) in
    omega (arith, h.0, h.1)

-- ---- the execution memory
pub set_cell-fits : (m : Memory) (i : ℕ) (c : Cell) → FitsMemory m → FitsCell c → FitsMemory (set_cell m i c)
set_cell-fits m i c h k = record {
  block-count = h.block-count;
  cell-count = length-set m.cells i c ∙ h.cell-count;
  blocks-fit = h.blocks-fit;
  cells_fit = all_set h.cells_fit i k;
}

pub set_cell-inside : (m : Memory) (i : ℕ) (c : Cell) → InsideMemory m → FitsCell c → InsideMemory (set_cell m i c)
set_cell-inside m i c h k =
    record { memory-fits = set_cell-fits m i c h.memory-fits k; blocks-inside = h.blocks-inside }

pub with_block-fits : (m : Memory) (u : Use) (k first n : ℕ) → FitsMemory m → FitsName k → FitsPlaces first n
    → FitsMemory (with_block m u k first n)
with_block-fits m u k first n h l r = record {
  block-count = length-set_named m.blocks k (block_for u first n) ∙ h.block-count;
  cell-count = length-fill m.cells first n (Cell.Holds k Value.Undefined) ∙ h.cell-count;
  blocks-fit = all-set_named h.blocks-fit k (made-fits u);
  cells_fit = all-fill h.cells_fit first n (l, tt);
}
  where
    made-fits : (u : Use) → FitsBlock (block_for u first n)
    made-fits fixed = r
    made-fits freeable = r

pub with_block-inside : (m : Memory) (u : Use) (k first n : ℕ) → InsideMemory m → FitsName k → first + n ≤ cell_count
    → InsideMemory (with_block m u k first n)
with_block-inside m u k first n h l r = record {
  memory-fits = with_block-fits m u k first n h.memory-fits l (omega arith, omega arith);
  blocks-inside = all-set_named h.blocks-inside k (made_inside u);
}
  where
    made_inside : (u : Use) → InsideBlock (block_for u first n)
    made_inside fixed = r
    made_inside freeable = r

pub end_block-fits : (m : Memory) (k : ℕ) → FitsMemory m → FitsMemory (end_block m k)
end_block-fits m k h = of (recorded_of (block_of m k))
  where
    of : (b : Recorded) → FitsMemory (without_cells m k b)
    of Recorded.Unused = h
    of (Recorded.Live first n) = record {
      block-count = length-set_named m.blocks k Block.Dead ∙ h.block-count;
      cell-count = length-fill m.cells first n Cell.Free ∙ h.cell-count;
      blocks-fit = all-set_named h.blocks-fit k tt;
      cells_fit = all-fill h.cells_fit first n tt;
    }
    of Recorded.Dead = h

pub end_block-inside : (m : Memory) (k : ℕ) → InsideMemory m → InsideMemory (end_block m k)
end_block-inside m k h =
    record { memory-fits = end_block-fits m k h.memory-fits; blocks-inside = of (recorded_of (block_of m k)) }
  where
    of : (b : Recorded) → All InsideBlock (without_cells m k b).blocks
    of Recorded.Unused = h.blocks-inside
    of (Recorded.Live first n) = all-set_named h.blocks-inside k tt
    of Recorded.Dead = h.blocks-inside

abbrev pub InRange : ℤ → Type 0
InRange z = in_range z ≡ true

pub start_memory-fits : (inputs : List ℤ) → All InRange inputs → length inputs ≤ input_limit
    → FitsMemory (start_memory inputs)
unfolding start_memory
start_memory-fits inputs h l = record {
  block-count = ap (λ (n : ℕ). suc (suc n)) (length-replicate (name_count - 2) Block.Unused);
  cell-count = counted;
  blocks-fit =
      also {x = Block.Fixed 0 1} (omega arith, omega arith) (also {x = Block.Fixed 1 (length inputs)}
      (omega arith, omega arith) (all_replicate (name_count - 2) Block.Unused tt));
  cells_fit = also {x = Cell.Holds 1 (Value.Pointer (record { name = 2; offset = pos 0 }))}
      (omega arith, (omega arith, refl)) (all_append
      (all_map (λ z. Cell.Holds 2 (Value.Integer z)) (λ z e. (omega arith, e)) h)
      (all_replicate (cell_count - 1 - length inputs) Cell.Free tt));
}
  where
    filled : List Cell
    filled = map (λ z. Cell.Holds 2 (Value.Integer z)) inputs

    counted : suc (length (filled ++ replicate (cell_count - 1 - length inputs) Cell.Free)) ≡ cell_count
    counted =
        omega (
          arith,
          length-append filled (replicate (cell_count - 1 - length inputs) Cell.Free),
          length-map inputs (λ z. Cell.Holds 2 (Value.Integer z)),
          length-replicate (cell_count - 1 - length inputs) Cell.Free,
        )

pub start_memory-inside : (inputs : List ℤ) → All InRange inputs → length inputs ≤ input_limit
    → InsideMemory (start_memory inputs)
unfolding start_memory
start_memory-inside inputs h l = record {
  memory-fits = start_memory-fits inputs h l;
  blocks-inside = also {x = Block.Fixed 0 1} (omega arith) (also {x = Block.Fixed 1 (length inputs)} (omega arith)
      (all_replicate (name_count - 2) Block.Unused tt));
}

-- ---- the observation memory
pub with_marks-fits : (o : Observation) (k : ℕ) (b : Recorded) (first n : ℕ) → FitsObservation o → FitsRecorded b
    → FitsObservation (with_marks o k b first n)
with_marks-fits o k b first n h r = record {
  record-count = length-set_named o.blocks k b ∙ h.record-count;
  mark-count = length-fill o.marks _ _ _ ∙ h.mark-count;
  records-fit = all-set_named h.records-fit k r;
}

pub with_marks-inside : (o : Observation) (k : ℕ) (b : Recorded) (first n : ℕ) → InsideObservation o → FitsRecorded b
    → InsideRecorded b → InsideObservation (with_marks o k b first n)
with_marks-inside o k b first n h r s = record {
  observation-fits = with_marks-fits o k b first n h.observation-fits r;
  records-inside = all-set_named h.records-inside k s;
}

pub marked-fits : (o : Observation) (i : ℕ) → FitsObservation o
    → FitsObservation (record { blocks = o.blocks; marks = set o.marks i true })
marked-fits o i h = record {
  record-count = h.record-count;
  mark-count = length-set o.marks i true ∙ h.mark-count;
  records-fit = h.records-fit;
}

-- ---- where a pointer leads is inside
abbrev LeadsInside : Located → Type 0
LeadsInside (Ok i) = i < cell_count
LeadsInside (Err Miss.Dead) = Unit {0}
LeadsInside (Err Miss.Outside) = Unit {0}

located_in-inside : (b : Recorded) (z : ℤ) → InsideRecorded b → LeadsInside (located_in b z)
located_in-inside Recorded.Unused z h = tt
located_in-inside (Recorded.Live first n) (pos o) h = pick (ltb o n) refl
  where
    pick : (t : Bool) → ltb o n ≡ t → LeadsInside (cond t (Ok (first + o)) (Err Miss.Outside))
    pick true e = omega (arith, ltb-true o n e)
    pick false e = tt
located_in-inside (Recorded.Live first n) (negsuc o) h = tt
located_in-inside Recorded.Dead z h = tt

pub locate-inside : (m : Memory) (p : Pointer) (i : ℕ) → InsideMemory m → locate m p ≡ Ok i → i < cell_count
unfolding locate
locate-inside m p i h e =
    subst LeadsInside e (located_in-inside (recorded_of (block_of m p.name)) p.offset
    (all_named h.blocks-inside p.name Block.Dead tt))

pub locate_mark-inside : (o : Observation) (p : Pointer) (i : ℕ) → InsideObservation o
    → locate_mark o p ≡ Ok i → i < cell_count
locate_mark-inside o p i h e =
    subst LeadsInside e (located_in-inside (record_of o p.name) p.offset
    (all_named h.records-inside p.name Recorded.Dead tt))
