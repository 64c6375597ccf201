-- Evaluating on a memory that fits gives values that fit: integers and offsets in 64 bits, names that a cell holds.
use Prim.Native.Nat.{ℕ, ◌^◌, ◌<◌}
use native.Mathlib.Omega.{arith}
use mathlib.Core.Bool.{Bool, true}
use mathlib.Core.Path.{◌≡◌, refl}
use lib.IntN.{ℤ}
use borrow.Author.Tests.{lt-ltb}
use Rattle.std.specs.Prelude.{Err, None, Some}
use Rattle.rules.specs.Types.{Pointer, Value, Evaluated, Found, Recorded, Cell, Temporary}
use Rattle.rules.specs.Trees.{Operator, Query, valid, initialised, base, offset, block_length, Expression}
use Rattle.rules.specs.Trees.{Place}
use Rattle.rules.specs.Numbers.{in_range, truth_value, Liveness}
use Rattle.rules.specs.Memory.{Memory, cell_of, located_in}
use Rattle.rules.specs.Evaluation.{Variables, Holding, held, address_of, operated, evaluate}
use Rattle.rules.specs.Evaluation.{find_place, is_valid, initialised_at, of_live, queried, opposite}
use Rattle.rules.specs.Observation.{Observation, record_of, query_observation, is_marked}
use Rattle.rules.proofs.Acceptance.Sound.{Scope, SoundExpression, SoundPlace}
use Rattle.rules.proofs.Runs.Operations.{truth-gives, operated-gives, opposite-gives}
use Rattle.rules.proofs.Runs.Keeping.{AnyNumber, Gives, Finds, on-pointer}
use Rattle.rules.proofs.Runs.EvaluatedValues.{CellHas, address_of-has, evaluate-has, find_place-has}
use Rattle.rules.proofs.Lists.Lists.{all_get_d, all_named}
use Rattle.rules.specs.Fits.{FitsName, FitsPointer, FitsValue, FitsRecorded, FitsCell, FitsTemporary}
use Rattle.rules.specs.Fits.{FitsMemory, FitsObservation}

abbrev pub FitsEvaluated : Evaluated → Type 0
FitsEvaluated e = Gives FitsValue AnyNumber e

abbrev pub FoundFits : Found → Type 0
FoundFits f = Finds FitsPointer AnyNumber f

-- operators
moved-fits : (p : Pointer) (z : ℤ) → FitsPointer p → in_range z ≡ true
    → FitsPointer (record { name = p.name; offset = z })
moved-fits p z h e = (h.0, e)

truth-fits : (b : Bool) → FitsEvaluated (truth_value b)
truth-fits b = truth-gives FitsValue AnyNumber (λ z e. e) moved-fits (λ c h. tt) b

pub operated-fits : (live : Liveness) (o : Operator) (a b : Evaluated) → FitsEvaluated a → FitsEvaluated b
    → FitsEvaluated (operated live o a b)
operated-fits live o a b g h = operated-gives FitsValue AnyNumber (λ z e. e) moved-fits (λ c h. tt) live o a b g h

-- queries
of_live-fits : (b : Recorded) (f : ℕ → Value) → FitsRecorded b → ((n : ℕ) → n < 65536 → FitsValue (f n))
    → FitsEvaluated (of_live b f)
of_live-fits Recorded.Unused f h g = tt
of_live-fits (Recorded.Live first n) f h g = g n h.1
of_live-fits Recorded.Dead f h g = tt

queried-fits : (q : Query) (b : Recorded) (marked : ℕ → Bool) (p : Pointer) → FitsRecorded b → FitsPointer p
    → FitsEvaluated (queried q b marked p)
unfolding queried
queried-fits valid b marked p h k = truth-fits (is_valid (located_in b p.offset))
queried-fits initialised b marked p h k = truth-fits (initialised_at marked (located_in b p.offset))
queried-fits base b marked p h k = of_live-fits b _ h (λ n l. (k.0, refl))
queried-fits offset b marked p h k = of_live-fits b _ h (λ n l. k.1)
queried-fits block_length b marked p h k = of_live-fits b _ h (λ n l. lt-ltb n (2 ^ 63) (omega arith))

pub query_observation-fits : (q : Query) (o : Observation) (v : Value) → FitsObservation o → FitsValue v
    → FitsEvaluated (query_observation q o v)
query_observation-fits q o v h k =
    on-pointer FitsEvaluated AnyNumber Err (λ c x. tt) FitsValue v _ tt k (λ p l.
    queried-fits q (record_of o p.name) (λ i. is_marked o i) p
    (all_named h.records-fit p.name Recorded.Dead tt) l)

pub opposite-fits : (v : Value) → FitsEvaluated (opposite v)
opposite-fits v = opposite-gives FitsValue AnyNumber (λ z e. e) moved-fits (λ c h. tt) v

-- temporaries, places and expressions
pub held_fits : (t : Temporary) → FitsTemporary t → FitsEvaluated (held t)
held_fits None h = tt
held_fits (Some v) h = h

pub address_of-fits : (f : Found) → FoundFits f → FitsEvaluated (address_of f)
address_of-fits f h = address_of-has FitsValue f h

cell-fits : (c : Cell) → FitsCell c → CellHas FitsValue c
cell-fits Cell.Free h = tt
cell-fits (Cell.Holds o v) h = h.1

-- N is what a temporary's name keeps, of no account here
module _ {T : Type 0} (N : T → Type 0) (τ : Holding T) (holding : (t : T) → FitsEvaluated (held (τ t))) (ρ : Variables)
    (names : (x : ℕ) → FitsName (ρ x)) (m : Memory) (fits : FitsMemory m) (σ : Scope) where
  cells : (i : ℕ) → CellHas FitsValue (cell_of m i)
  cells i = cell-fits (cell_of m i) (all_get_d fits.cells_fit i Cell.Free tt)

  pub evaluate-fits : (e : Expression T) → SoundExpression e N σ → FitsEvaluated (evaluate e τ ρ m)
  evaluate-fits e h =
      evaluate-has FitsValue (λ z e. e) moved-fits N τ holding ρ σ (λ x e. (names x, refl)) m cells e h

  pub find_place-fits : (p : Place T) → SoundPlace p N σ → FoundFits (find_place p τ ρ m)
  find_place-fits p h =
      find_place-has FitsValue (λ z e. e) moved-fits N τ holding ρ σ (λ x e. (names x, refl)) m cells p h
