-- What evaluating gives: a value of which G holds, where G holds of numbers in range, and of what the cells, the
-- temporaries and the addresses of variables in scope give.
use Prim.Native.Nat.{ℕ}
use mathlib.Core.Bool.{true}
use mathlib.Core.Path.{◌≡◌}
use lib.IntN.{ℤ, pos}
use Rattle.std.specs.Prelude.{Err, None, Ok, Some}
use Rattle.rules.specs.Types.{Pointer, Value, Evaluated, Found, Cell, Temporary}
use Rattle.rules.specs.Trees.{Operator, shift, Expression, literal, read, address, operation, shifted, Place}
use Rattle.rules.specs.Trees.{variable, pointed, temporary}
use Rattle.rules.specs.Numbers.{in_range}
use Rattle.rules.specs.Memory.{Memory, cell_of, locate, defined, read_cell, live_block}
use Rattle.rules.specs.Evaluation.{Variables, Holding, held, pointed_by, address_of, operated, evaluate, find_place}
use Rattle.rules.proofs.Acceptance.Sound.{Scope, SoundExpression, SoundPlace}
use Rattle.rules.proofs.Runs.Operations.{operated-gives}
use Rattle.rules.proofs.Runs.Keeping.{AnyNumber, Gives, Finds, on_value_lem, on-place, on-pointer, at-cell}

-- G of the value that a cell or a temporary holds
abbrev pub CellHas : (Value → Type 0) → Cell → Type 0
CellHas G Cell.Free = Unit {0}
CellHas G (Cell.Holds o v) = G v

abbrev pub TemporaryHas : (Value → Type 0) → Temporary → Type 0
TemporaryHas G None = Unit {0}
TemporaryHas G (Some v) = G v

abbrev pub EvaluatedHas : (Value → Type 0) → Evaluated → Type 0
EvaluatedHas G e = Gives G AnyNumber e

abbrev pub FoundHas : (Value → Type 0) → Found → Type 0
FoundHas G f = Finds (λ p. G (Value.Pointer p)) AnyNumber f

module _ (G : Value → Type 0) where
  pub held-has : (t : Temporary) → TemporaryHas G t → EvaluatedHas G (held t)
  held-has None h = tt
  held-has (Some v) h = h

  pub address_of-has : (f : Found) → FoundHas G f → EvaluatedHas G (address_of f)
  address_of-has f h = on-place (EvaluatedHas G) AnyNumber Err (λ c x. tt) f _ h (λ p l. l)

  pointed_by-has : (e : Evaluated) → EvaluatedHas G e → FoundHas G (pointed_by e)
  pointed_by-has e h =
      on_value_lem (FoundHas G) AnyNumber Err (λ c x. tt) e _ h (λ v k.
      on-pointer (FoundHas G) AnyNumber Err (λ c x. tt) G v Ok tt k (λ p l. l))

  defined-has : (c : Cell) → CellHas G c → EvaluatedHas G (defined c)
  defined-has Cell.Free h = tt
  defined-has (Cell.Holds o Value.Undefined) h = tt
  defined-has (Cell.Holds o (Value.Integer z)) h = h
  defined-has (Cell.Holds o (Value.Pointer p)) h = h

  read_cell-has : (m : Memory) (p : Pointer) → ((i : ℕ) → CellHas G (cell_of m i)) → EvaluatedHas G (read_cell m p)
  read_cell-has m p h =
      at-cell (EvaluatedHas G) AnyNumber Err (λ c x. tt) (locate m p) _ tt tt
      (λ i. defined-has (cell_of m i) (h i))

-- N is what a temporary's name keeps, of no account here
module _ (G : Value → Type 0) (numbers : (z : ℤ) → in_range z ≡ true → G (Value.Integer z))
    (moves : (p : Pointer) (z : ℤ) → G (Value.Pointer p) → in_range z ≡ true
    → G (Value.Pointer (record { name = p.name; offset = z })))
    {T : Type 0} (N : T → Type 0) (τ : Holding T) (holding : (t : T) → EvaluatedHas G (held (τ t))) (ρ : Variables)
    (σ : Scope) (addresses : (x : ℕ) → σ x ≡ true → G (Value.Pointer (record { name = ρ x; offset = pos 0 })))
    (m : Memory) (cells : (i : ℕ) → CellHas G (cell_of m i)) where
  both-has : (o : Operator) (a b : Evaluated) → EvaluatedHas G a → EvaluatedHas G b
      → EvaluatedHas G (operated (live_block m) o a b)
  both-has o a b g h = operated-gives G AnyNumber numbers moves (λ c x. tt) (live_block m) o a b g h

  mutual
    unfolding evaluate

    pub evaluate-has : (e : Expression T) → SoundExpression e N σ → EvaluatedHas G (evaluate e τ ρ m)
    evaluate-has (literal z) h = numbers z h
    evaluate-has (read p) h =
        on-place (EvaluatedHas G) AnyNumber Err (λ c x. tt) (find_place p τ ρ m) (read_cell m)
        (find_place-has p h) (λ l k. read_cell-has G m l cells)
    evaluate-has (address p) h = address_of-has G (find_place p τ ρ m) (find_place-has p h)
    evaluate-has (operation o a b) h =
        both-has o (evaluate a τ ρ m) (evaluate b τ ρ m) (evaluate-has a h.1) (evaluate-has b h.2)
    evaluate-has (shifted a b) h =
        both-has shift (evaluate a τ ρ m) (evaluate b τ ρ m) (evaluate-has a h.0) (evaluate-has b h.1)

    pub find_place-has : (p : Place T) → SoundPlace p N σ → FoundHas G (find_place p τ ρ m)
    find_place-has (variable x) h = addresses x h.1
    find_place-has (pointed e) h = pointed_by-has G (evaluate e τ ρ m) (evaluate-has e h)
    find_place-has (temporary t) h = pointed_by-has G (held (τ t)) (holding t)
