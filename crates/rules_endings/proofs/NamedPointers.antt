-- Every pointer that a run of an accepted table can use has a name that was given: in cells, temporaries and variables.
use Prim.Native.Nat.{ℕ, zero, suc}
use mathlib.Core.Bool.{Bool, true, false, cond}
use mathlib.Core.List.{List}
use mathlib.Core.Path.{refl}
use lib.Dec.{eqb}
use lib.IntN.{ℤ}
use Rattle.std.specs.Prelude.{None, Some}
use Rattle.rules.specs.Types.{Search, Temporary}
use Rattle.rules.specs.declared.{Value.Value, Cell.Cell, Stop.Stop}
use Rattle.rules.specs.Memory.{Memory, block_of, cell_of, fixed, next_name, free_run, with_block, make_at, make_block}
use Rattle.rules.specs.Memory.{start_memory}
use Rattle.rules.specs.Evaluation.{Variables, extend}
use Rattle.rules.specs.Plain.{start_variables}
use Rattle.rules.specs.Watched.{Temporaries, temporary_of}
use Rattle.rules.proofs.Lists.Lists.{all_get_d}
use Rattle.rules.proofs.Runs.Keeping.{MadeKeeps}
use Rattle.rules.proofs.Runs.EvaluatedValues.{CellHas, TemporaryHas}
use Rattle.rules.proofs.Memory.Invariant.{Invariant, becomes-given, Onward}
use Rattle.rules.proofs.Memory.BlockChanges.{onward-make, make-given}
use Rattle.rules.proofs.Memory.GivenNames.{GivenValue, CellsGiven, TemporariesGiven}
use Rattle.rules.proofs.Memory.Room.{HasRoom, room}
use Rattle.rules_endings.proofs.UsedLaws.{IsNamed, NamedValue, VariablesNamed}

-- names that were given stay given
pub names-stay : {m m₁ : Memory} (ρ : Variables) → Onward m m₁ → VariablesNamed ρ m → VariablesNamed ρ m₁
names-stay {m} {m₁} ρ h v x = becomes-given (block_of m (ρ x)) (block_of m₁ (ρ x)) (h.becomes (ρ x)) (v x)

-- what a statement starts with
abbrev pub Started : Variables → Memory → Type 0
Started ρ m = Invariant m × VariablesNamed ρ m

pub started-on : {m m₁ : Memory} (ρ : Variables) → Onward m m₁ → Started ρ m → Started ρ m₁
started-on ρ h j = (h.invariant, names-stay ρ h j.1)

-- a let's block, or the number where there is none
pub let-started : (C : Stop → Type 0) (ρ : Variables) (z : ℕ) (m : Memory) → Started ρ m → C Stop.NamesGiven
    → C Stop.NoRun → MadeKeeps (λ k m₁. Started (extend ρ z k) m₁) C (make_block m fixed 1)
let-started C ρ z m j no_name no_cells = go (next_name m) (free_run m 1) (room m 1)
  where
    extended : (k : ℕ) (m₁ : Memory) → VariablesNamed ρ m₁ → IsNamed m₁ k → VariablesNamed (extend ρ z k) m₁
    extended k m₁ v n x = pick (eqb x z)
      where
        pick : (b : Bool) → IsNamed m₁ (cond b k (ρ x))
        pick true = n
        pick false = v x

    go : (r s : Search) → HasRoom m 1 r s
        → MadeKeeps (λ k m₁. Started (extend ρ z k) m₁) C (make_at m fixed 1 r s)
    go None s h = no_name
    go (Some k) None h = no_cells
    go (Some k) (Some first) h =
        let m₁ = with_block m fixed k first 1 in
        let onward = onward-make m fixed 1 k first h j.0 in
        (onward.invariant, extended k m₁ (names-stay ρ onward j.1) (make-given m fixed 1 k first h j.0))

-- of the start, where a variable out of scope has name 0, which no block has
pub start-named : (is : List ℤ) → VariablesNamed start_variables (start_memory is)
unfolding start_memory
start-named is zero = refl
start-named is (suc x) = refl

-- what is given is named
cell-named : (m : Memory) (c : Cell) → CellHas (GivenValue m) c → CellHas (NamedValue m) c
cell-named m Cell.Free h = tt
cell-named m (Cell.Holds o Value.Undefined) h = tt
cell-named m (Cell.Holds o (Value.Integer z)) h = tt
cell-named m (Cell.Holds o (Value.Pointer p)) h = h.2

pub cells-named : (m : Memory) → CellsGiven m → (i : ℕ) → CellHas (NamedValue m) (cell_of m i)
cells-named m h i = cell-named m (cell_of m i) (all_get_d h i Cell.Free tt)

temporary-named : (m : Memory) (t : Temporary) → TemporaryHas (GivenValue m) t → TemporaryHas (NamedValue m) t
temporary-named m None h = tt
temporary-named m (Some Value.Undefined) h = tt
temporary-named m (Some (Value.Integer z)) h = tt
temporary-named m (Some (Value.Pointer p)) h = h.2

pub temporaries-named : (m : Memory) (τ : Temporaries) → TemporariesGiven m τ → (n : ℕ)
    → TemporaryHas (NamedValue m) (temporary_of τ n)
temporaries-named m τ h n = temporary-named m (temporary_of τ n) (all_get_d h n None tt)
