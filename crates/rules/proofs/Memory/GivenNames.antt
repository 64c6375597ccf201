-- Names that were given stay given, and no change of the memory makes a pointer to a name that never was.
use Prim.Native.Nat.{ℕ, suc, ◌≤◌}
use mathlib.Core.Path.{◌≡◌}
use mathlib.Core.Bool.{Bool, true, false}
use lib.IntN.{ℤ}
use Rattle.std.specs.Prelude.{None, Some}
use Rattle.rules.specs.Types.{Pointer, Value, Evaluated, Found, Search, Recorded, Cell, Temporary}
use Rattle.rules.specs.Sizes.{name_count}
use Rattle.rules.specs.Trees.{Query, valid, initialised, base, offset, block_length}
use Rattle.rules.specs.Numbers.{in_range}
use Rattle.rules.specs.Memory.{Memory, recorded_of, block_of, located_in, set_cell, is_unused, next_name, free_run, Use}
use Rattle.rules.specs.Memory.{freeable, Change, changed, stopped, make_at, make_block, with_block, without_cells}
use Rattle.rules.specs.Memory.{end_block, assigned, allocated, freed}
use Rattle.rules.specs.Evaluation.{is_valid, initialised_at, of_live, queried, opposite}
use Rattle.rules.specs.Watched.{Temporaries}
use Rattle.rules.specs.Fits.{All}
use Rattle.rules.proofs.Runs.Operations.{truth-gives, opposite-gives}
use Rattle.rules.proofs.Runs.Keeping.{AnyNumber, ChangeKeeps, MadeKeeps, assigned-keeps, allocated_keeps}
use Rattle.rules.proofs.Runs.Keeping.{freed-keeps}
use Rattle.rules.proofs.Lists.Lists.{all-change, all_set, all-fill}
use Rattle.rules.proofs.Memory.Invariant.{Invariant, becomes-given, Onward}
use Rattle.rules.proofs.Memory.Room.{HasRoom, room}
use Rattle.rules.proofs.Memory.BlockChanges.{onward-make, make-given, end-given}
use Rattle.rules.proofs.Memory.Changes.{change-kept, onward-assigned, onward-allocated, onward-freed}
use Rattle.rules.proofs.Runs.EvaluatedValues.{CellHas, TemporaryHas, EvaluatedHas, FoundHas}

-- a name that was given
abbrev pub IsGiven : Memory → ℕ → Type 0
IsGiven m k = (1 ≤ k) × (k ≤ name_count) × (is_unused (block_of m k) ≡ false)

-- a pointer's name was given
abbrev pub GivenValue : Memory → Value → Type 0
GivenValue m Value.Undefined = Unit {0}
GivenValue m (Value.Integer z) = Unit {0}
GivenValue m (Value.Pointer p) = IsGiven m p.name

abbrev pub CellsGiven : Memory → Type 0
CellsGiven m = All (CellHas (GivenValue m)) m.cells

abbrev pub TemporariesGiven : Memory → Temporaries → Type 0
TemporariesGiven m τ = All (TemporaryHas (GivenValue m)) τ

-- names that were given stay given
abbrev pub Stay : Memory → Memory → Type 0
Stay m m₁ = (k : ℕ) → IsGiven m k → IsGiven m₁ k

pub onward-stay : (m m₁ : Memory) → Onward m m₁ → Stay m m₁
onward-stay m m₁ h k g = (g.0, g.1, becomes-given (block_of m k) (block_of m₁ k) (h.becomes k) g.2)

pub end-stay : (m : Memory) (j : ℕ) → Stay m (end_block m j)
end-stay m j k g = (g.0, g.1, end-given m j k g.2)

module _ (m m₁ : Memory) (stay : Stay m m₁) where
  value_stays : (v : Value) → GivenValue m v → GivenValue m₁ v
  value_stays Value.Undefined h = tt
  value_stays (Value.Integer z) h = tt
  value_stays (Value.Pointer p) h = stay p.name h

  cell_stays : (c : Cell) → CellHas (GivenValue m) c → CellHas (GivenValue m₁) c
  cell_stays Cell.Free h = tt
  cell_stays (Cell.Holds o v) h = value_stays v h

  temporary-stays : (t : Temporary) → TemporaryHas (GivenValue m) t → TemporaryHas (GivenValue m₁) t
  temporary-stays None h = tt
  temporary-stays (Some v) h = value_stays v h

  pub temporaries-stay : {τ : Temporaries} → TemporariesGiven m τ → TemporariesGiven m₁ τ
  temporaries-stay h = all-change temporary-stays h

-- a store
set_cell-given : (m : Memory) (i o : ℕ) (v : Value) → CellsGiven m → GivenValue m v
    → CellsGiven (set_cell m i (Cell.Holds o v))
set_cell-given m i o v h g =
    let m₁ = set_cell m i (Cell.Holds o v) in
    let stays : Stay m m₁ = λ k w. w in
    all_set (all-change (cell_stays m m₁ stays) h) i (value_stays m m₁ stays v g)

-- a new block
abbrev pub MadeGiven : Memory → ℕ → Memory → Type 0
MadeGiven m k m₁ = Onward m m₁ × CellsGiven m₁ × IsGiven m₁ k

pub make_block-given : (m : Memory) (u : Use) (n : ℕ) → Invariant m → CellsGiven m
    → MadeKeeps (MadeGiven m) AnyNumber (make_block m u n)
make_block-given m u n y h = go (next_name m) (free_run m n) (room m n)
  where
    go : (r s : Search) → HasRoom m n r s → MadeKeeps (MadeGiven m) AnyNumber (make_at m u n r s)
    go None s w = tt
    go (Some k) None w = tt
    go (Some k) (Some first) w =
        let m₁ = with_block m u k first n in
        let onward : Onward m m₁ = onward-make m u n k first w y in (
          onward,
          all-fill (all-change (cell_stays m m₁ (onward-stay m m₁ onward)) h) first n tt,
          (w.from, w.to, make-given m u n k first w y),
        )

-- the end of a block
pub end_block-given : (m : Memory) (k : ℕ) → CellsGiven m → CellsGiven (end_block m k)
end_block-given m k h = go (recorded_of (block_of m k)) (end-stay m k)
  where
    go : (b : Recorded) → Stay m (without_cells m k b) → CellsGiven (without_cells m k b)
    go Recorded.Unused s = h
    go (Recorded.Live first n) s =
        all-fill (all-change (cell_stays m (without_cells m k (Recorded.Live first n)) s) h) first n tt
    go Recorded.Dead s = h

-- the changes that statements make
abbrev pub Changed : Memory → Memory → Type 0
Changed m m₁ = Onward m m₁ × CellsGiven m₁

both-kept : (m : Memory) (c : Change Memory) → ChangeKeeps (Onward m) AnyNumber c → ChangeKeeps CellsGiven AnyNumber c
    → ChangeKeeps (Changed m) AnyNumber c
both-kept m (changed m₁) h g = (h, g)
both-kept m (stopped c m₁) h g = (tt, (h.1, g.1))

module _ (m : Memory) (y : Invariant m) (h : CellsGiven m) where
  pub assigned-given : (f : Found) (e : Evaluated) → FoundHas (GivenValue m) f → EvaluatedHas (GivenValue m) e
      → ChangeKeeps (Changed m) AnyNumber (assigned m f e)
  assigned-given f e p v =
      both-kept m (assigned m f e) (change-kept m (assigned m f e) (onward-assigned m f e y))
      (assigned-keeps CellsGiven AnyNumber AnyNumber (λ c x. tt) (λ c x. tt) (GivenValue m)
      (λ p. IsGiven m p.name) m f e h p v (λ q w a b i. set_cell-given m i q.name w h b))

  pub allocated-given : (f : Found) (e : Evaluated) → FoundHas (GivenValue m) f → EvaluatedHas (GivenValue m) e
      → ChangeKeeps (Changed m) AnyNumber (allocated m f e)
  allocated-given f e p v =
      both-kept m (allocated m f e) (change-kept m (allocated m f e) (onward-allocated m f e y))
      (allocated_keeps CellsGiven AnyNumber AnyNumber (λ c x. tt) (λ c x. tt) (GivenValue m)
      (λ p. IsGiven m p.name) {K = MadeGiven m} m f e h p v tt (λ n. make_block-given m freeable (suc n) y h)
      (λ k m₁ x. x.1) (λ q a k m₁ x i. set_cell-given m₁ i q.name _ x.1 x.2))

  pub freed-given : (e : Evaluated) → EvaluatedHas (GivenValue m) e
      → ChangeKeeps (Changed m) AnyNumber (freed m e)
  freed-given e v =
      both-kept m (freed m e) (change-kept m (freed m e) (onward-freed m e y))
      (freed-keeps CellsGiven AnyNumber AnyNumber (λ c x. tt) (λ c x. tt) (GivenValue m)
      (λ p. IsGiven m p.name) m e h v tt (λ k. end_block-given m k h))

-- numbers, operators and queries make no names
pub numbers-given : (m : Memory) (z : ℤ) → in_range z ≡ true → GivenValue m (Value.Integer z)
numbers-given m z e = tt

pub moves-given : (m : Memory) (p : Pointer) (z : ℤ) → GivenValue m (Value.Pointer p) → in_range z ≡ true
    → GivenValue m (Value.Pointer (record { name = p.name; offset = z }))
moves-given m p z h e = h

pub opposite-given : (m : Memory) (v : Value) → EvaluatedHas (GivenValue m) (opposite v)
opposite-given m v = opposite-gives (GivenValue m) AnyNumber (numbers-given m) (moves-given m) (λ c x. tt) v

of_live-given : (m : Memory) (b : Recorded) (f : ℕ → Value) → ((n : ℕ) → GivenValue m (f n))
    → EvaluatedHas (GivenValue m) (of_live b f)
of_live-given m Recorded.Unused f h = tt
of_live-given m (Recorded.Live first n) f h = h n
of_live-given m Recorded.Dead f h = tt

pub queried-given : (m : Memory) (q : Query) (b : Recorded) (marked : ℕ → Bool) (p : Pointer) → IsGiven m p.name
    → EvaluatedHas (GivenValue m) (queried q b marked p)
unfolding queried
queried-given m valid b marked p h =
    truth-gives (GivenValue m) AnyNumber (numbers-given m) (moves-given m) (λ c x. tt)
    (is_valid (located_in b p.offset))
queried-given m initialised b marked p h =
    truth-gives (GivenValue m) AnyNumber (numbers-given m) (moves-given m) (λ c x. tt)
    (initialised_at marked (located_in b p.offset))
queried-given m base b marked p h = of_live-given m b _ (λ n. h)
queried-given m offset b marked p h = of_live-given m b _ (λ n. tt)
queried-given m block_length b marked p h = of_live-given m b _ (λ n. tt)
