-- The observation memory that mirrors an execution memory answers as that one does.
use Prim.Native.Nat.{ℕ, suc}
use native.Mathlib.Omega.{arith}
use mathlib.Core.Path.{◌≡◌, refl, sym, ap, ◌∙◌, fun_ext}
use mathlib.Core.Bool.{Bool, true, false, not}
use mathlib.Core.List.{map}
use lib.IntN.{pos}
use lib.ListN.{set, get_or-map}
use Rattle.std.specs.Prelude.{Ok, Some}
use Rattle.rules.specs.Types.{Pointer, Value, Block, Recorded, Cell}
use Rattle.rules.specs.Trees.{Query}
use Rattle.rules.specs.Memory.{Memory, recorded_of, block_of, cell_of, locate, located_in, set_cell, set_named, is_live}
use Rattle.rules.specs.Memory.{lowest_run, is_free, free_run, fill, Use, block_for, with_block, without_cells}
use Rattle.rules.specs.Memory.{end_block, live_block}
use Rattle.rules.specs.Evaluation.{is_initialised, queried, query_memory}
use Rattle.rules.specs.Observation.{record_of, covered, mark_run, noted, store_at, store_block, delete_at, is_marked}
use Rattle.rules.specs.Observation.{delete_block, locate_mark, mark_at, initialise, query_observation, pointer_to}
use Rattle.rules.specs.Observation.{mirror, live_record}
use Rattle.rules.proofs.Memory.MemoryLaws.{map-set, map-set_named, map-fill, named-map, coverage, Covered, some}
use Rattle.rules.proofs.Memory.MemoryLaws.{none}
use Rattle.rules.proofs.Memory.MemoryLaws.{covered-is}
use Rattle.rules.proofs.Memory.Invariant.{occupied, records_of, Invariant}
use Rattle.rules.proofs.Memory.BlockChanges.{recorded-for}
use Rattle.rules.proofs.Runs.DefinedValues.{Defined}

module _ (m : Memory) where
  pub mirror-record : (k : ℕ) → record_of (mirror m) k ≡ recorded_of (block_of m k)
  mirror-record k = named-map recorded_of m.blocks k Block.Dead

  -- of every block both memories say the same: whether it is live
  pub mirror-live : live_record (mirror m) ≡ live_block m
  mirror-live = fun_ext (λ k. ap is_live (mirror-record k))

  pub mirror-marks : ◌≡◌ {A = ℕ → Bool} (λ i. is_marked (mirror m) i) (λ i. is_initialised (cell_of m i))
  mirror-marks = fun_ext (λ i. get_or-map is_initialised m.cells i Cell.Free)

  pub mirror-locate : (p : Pointer) → locate_mark (mirror m) p ≡ locate m p
  unfolding locate
  mirror-locate p = ap (λ b. located_in b p.offset) (mirror-record p.name)

  pub mirror-query : (q : Query) (v : Value) → query_observation q (mirror m) v ≡ query_memory q m v
  mirror-query q Value.Undefined = refl
  mirror-query q (Value.Integer z) = refl
  mirror-query q (Value.Pointer p) = λ i. queried q (mirror-record p.name i) (mirror-marks i) p

  -- a mark is in no live block where the cell is free
  mirror-free : Invariant m → (i : ℕ) → not (covered (records_of m) i) ≡ is_free (cell_of m i)
  mirror-free y i = go (cell_of m i) (covered-is (records_of m) i) (y.cover i)
    where
      go : {b : Bool} (c : Cell) → Covered (records_of m) i b → coverage (records_of m) i ≡ occupied c → not b ≡ is_free c
      go Cell.Free (some h) e = absurd (omega arith)
      go (Cell.Holds o v) (some h) e = refl
      go Cell.Free (none h) e = refl
      go (Cell.Holds o v) (none h) e = absurd (omega arith)

  pub mirror-run : Invariant m → (n : ℕ) → mark_run (mirror m) n ≡ free_run m n
  mirror-run y n = ap (λ p. lowest_run p n) (fun_ext (mirror-free y))

-- the three calls follow the three changes
initialised-is : (o : ℕ) (v : Value) → Defined v → is_initialised (Cell.Holds o v) ≡ true
initialised-is o Value.Undefined d = absurd d
initialised-is o (Value.Integer z) d = refl
initialised-is o (Value.Pointer p) d = refl

pub mirror-initialise : (m : Memory) (p : Pointer) (i : ℕ) (v : Value) → Defined v → locate m p ≡ Ok i
    → initialise (mirror m) (Value.Pointer p) ≡ noted (mirror (set_cell m i (Cell.Holds p.name v)))
mirror-initialise m p i v d e =
    ap (mark_at (mirror m)) (mirror-locate m p ∙ e)
    ∙ (λ j. noted (record { blocks = records_of m; marks = marked j }))
  where
    marked : set (map is_initialised m.cells) i true ≡ map is_initialised (set m.cells i (Cell.Holds p.name v))
    marked = ap (set (map is_initialised m.cells) i) (sym (initialised-is p.name v d))
        ∙ sym (map-set is_initialised m.cells i (Cell.Holds p.name v))

pub mirror-store : (m : Memory) (u : Use) (n k first : ℕ) → Invariant m → block_of m k ≡ Block.Unused
    → free_run m (suc n) ≡ Some first
    → store_block (mirror m) (pointer_to k 0) (Value.Integer (pos (suc n)))
    ≡ noted (mirror (with_block m u k first (suc n)))
mirror-store m u n k first y e g =
    (λ j. store_at (mirror m) k (suc n) (unused j) (run j))
    ∙ (λ j. noted (record { blocks = blocks j; marks = marks j }))
  where
    unused : record_of (mirror m) k ≡ Recorded.Unused
    unused = mirror-record m k ∙ ap recorded_of e

    run : mark_run (mirror m) (suc n) ≡ Some first
    run = mirror-run m y (suc n) ∙ g

    blocks : set_named (records_of m) k (Recorded.Live first (suc n))
        ≡ map recorded_of (set_named m.blocks k (block_for u first (suc n)))
    blocks = ap (set_named (records_of m) k) (sym (recorded-for u first (suc n)))
        ∙ sym (map-set_named recorded_of m.blocks k (block_for u first (suc n)))

    marks : fill (map is_initialised m.cells) first (suc n) false
        ≡ map is_initialised (fill m.cells first (suc n) (Cell.Holds k Value.Undefined))
    marks = sym (map-fill is_initialised m.cells first (suc n) (Cell.Holds k Value.Undefined))

pub mirror-delete : (m : Memory) (k first n : ℕ) → recorded_of (block_of m k) ≡ Recorded.Live first n
    → delete_block (mirror m) (pointer_to k 0) ≡ noted (mirror (end_block m k))
mirror-delete m k first n e =
    ap (delete_at (mirror m) k) (mirror-record m k ∙ e)
    ∙ (λ j. noted (record { blocks = blocks j; marks = marks j }))
    ∙ ap (λ x. noted (mirror (without_cells m k x))) (sym e)
  where
    blocks : set_named (records_of m) k Recorded.Dead ≡ map recorded_of (set_named m.blocks k Block.Dead)
    blocks = sym (map-set_named recorded_of m.blocks k Block.Dead)

    marks : fill (map is_initialised m.cells) first n false ≡ map is_initialised (fill m.cells first n Cell.Free)
    marks = sym (map-fill is_initialised m.cells first n Cell.Free)
