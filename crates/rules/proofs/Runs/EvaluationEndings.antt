-- What evaluating gives: a value of which G holds, or a stop with one of the numbers for it.
use Prim.Native.Nat.{ℕ}
use mathlib.Core.Bool.{Bool}
use mathlib.Core.List.{List}
use mathlib.Core.Path.{refl}
use lib.IntN.{ℤ}
use Rattle.std.specs.Prelude.{Err, Ok}
use Rattle.rules.specs.Types.{Pointer, Value, Evaluated, Found, Recorded, Cell, Stop, stop_number}
use Rattle.rules.specs.Trees.{Operator, shift, Query, Expression}
use Rattle.rules.specs.Trees.{literal, read, address, operation, shifted, Place, variable, pointed, temporary}
use Rattle.rules.specs.Trees.{Term, value, asked, combined, Predicate, holds, compared, negated, both, either}
use Rattle.rules.specs.Numbers.{tested, Liveness}
use Rattle.rules.specs.Memory.{Memory, cell_of, locate, defined, read_cell, on_value, live_block}
use Rattle.rules.specs.Evaluation.{Variables, Holding, no_temporaries, held, pointed_by, address_of, operated}
use Rattle.rules.specs.Evaluation.{evaluate, find_place, queried, query_memory, evaluate_term, on_test, opposite}
use Rattle.rules.specs.Evaluation.{evaluate_predicate, condition}
use Rattle.rules.specs.Answers.{operation_endings, evaluation_endings}
use Rattle.rules.proofs.Lists.Among.{StopsAmong, among-more}
use Rattle.rules.proofs.Runs.Operations.{operated-gives, tested-stops, condition-stops, opposite-gives}
use Rattle.rules.proofs.Runs.Operations.{queried-gives, query_memory-gives}
use Rattle.rules.proofs.Runs.Keeping.{AnyPlace, Gives, Finds, TestStops, on_value_lem, on-place}
use Rattle.rules.proofs.Runs.Keeping.{on-pointer}
use Rattle.rules.proofs.Runs.Keeping.{on-test, at-cell}

-- G of the value; the numbers of stops
abbrev pub EvaluatedAmong : (Value → Type 0) → List ℕ → Evaluated → Type 0
EvaluatedAmong G numbers e = Gives G (StopsAmong numbers) e

abbrev pub FoundAmong : List ℕ → Found → Type 0
FoundAmong numbers f = Finds AnyPlace (StopsAmong numbers) f

-- G holds of every defined value; those that evaluating without temporaries has are among the numbers
module _ (G : Value → Type 0) (integers : (z : ℤ) → G (Value.Integer z))
    (pointers : (p : Pointer) → G (Value.Pointer p)) (numbers : List ℕ)
    (enough : (c : Stop) → StopsAmong evaluation_endings c → StopsAmong numbers c) where
  operations : (c : Stop) → StopsAmong operation_endings c → StopsAmong numbers c
  operations c h = enough c (among-more operation_endings evaluation_endings (stop_number c) refl h)

  pub queried-among : (q : Query) (b : Recorded) (marked : ℕ → Bool) (p : Pointer)
      → EvaluatedAmong G numbers (queried q b marked p)
  queried-among q b marked p = queried-gives G (StopsAmong numbers) integers pointers operations q b marked p

  tested-among : (v : Value) → TestStops (StopsAmong numbers) (tested v)
  tested-among v = tested-stops G (StopsAmong numbers) (λ z e. integers z) (λ p z g e. pointers _) operations v

  among-value : (e : Evaluated) (next : Value → Evaluated) → EvaluatedAmong G numbers e
      → ((v : Value) → G v → EvaluatedAmong G numbers (next v))
      → EvaluatedAmong G numbers (on_value e Err next)
  among-value e next h g = on_value_lem (EvaluatedAmong G numbers) (StopsAmong numbers) Err (λ c x. x) e next h g

  pub condition-among : (e : Evaluated) → EvaluatedAmong G numbers e → TestStops (StopsAmong numbers) (condition e)
  condition-among e h =
      condition-stops G (StopsAmong numbers) (λ z e. integers z) (λ p z g e. pointers _) operations e h

  pub operated-among : (live : Liveness) (o : Operator) (a b : Evaluated) → EvaluatedAmong G numbers a
      → EvaluatedAmong G numbers b
      → EvaluatedAmong G numbers (operated live o a b)
  operated-among live o a b g h =
      operated-gives G (StopsAmong numbers) (λ z e. integers z) (λ p z g e. pointers _) operations live o a b g h

  defined-among : (c : Cell) → EvaluatedAmong G numbers (defined c)
  defined-among Cell.Free = enough Stop.UndefinedCell refl
  defined-among (Cell.Holds o Value.Undefined) = enough Stop.UndefinedCell refl
  defined-among (Cell.Holds o (Value.Integer z)) = integers z
  defined-among (Cell.Holds o (Value.Pointer p)) = pointers p

  read_cell-among : (m : Memory) (p : Pointer) → EvaluatedAmong G numbers (read_cell m p)
  read_cell-among m p = at-cell (EvaluatedAmong G numbers) (StopsAmong numbers) Err (λ c x. x) (locate m p) _
      (enough Stop.DeadBlock refl) (enough Stop.OutsideBlock refl) (λ i. defined-among (cell_of m i))

  pub address_of-among : (f : Found) → FoundAmong numbers f → EvaluatedAmong G numbers (address_of f)
  address_of-among f h = on-place (EvaluatedAmong G numbers) (StopsAmong numbers) Err (λ c x. x) f _ h
      (λ p u. pointers p)

  pointed_by-among : (e : Evaluated) → EvaluatedAmong G numbers e → FoundAmong numbers (pointed_by e)
  pointed_by-among e h =
      on_value_lem (FoundAmong numbers) (StopsAmong numbers) Err (λ c x. x) e _ h (λ v u.
      on-pointer (FoundAmong numbers) (StopsAmong numbers) Err (λ c x. x) G v Ok (enough Stop.WrongSort refl) u
      (λ p w. tt))

  pub opposite-among : (v : Value) → EvaluatedAmong G numbers (opposite v)
  opposite-among v = opposite-gives G (StopsAmong numbers) (λ z e. integers z) (λ p z g e. pointers _) operations v

  mutual
    unfolding evaluate

    pub evaluate-among : {T : Type 0} (e : Expression T) (τ : Holding T)
        → ((t : T) → EvaluatedAmong G numbers (held (τ t))) → (ρ : Variables) (m : Memory)
        → EvaluatedAmong G numbers (evaluate e τ ρ m)
    evaluate-among (literal z) τ h ρ m = integers z
    evaluate-among (read p) τ h ρ m =
        on-place (EvaluatedAmong G numbers) (StopsAmong numbers) Err (λ c x. x) (find_place p τ ρ m)
        (read_cell m)
        (find_place-among p τ h ρ m) (λ l u. read_cell-among m l)
    evaluate-among (address p) τ h ρ m = address_of-among (find_place p τ ρ m) (find_place-among p τ h ρ m)
    evaluate-among (operation o a b) τ h ρ m =
        operated-among (live_block m) o (evaluate a τ ρ m) (evaluate b τ ρ m) (evaluate-among a τ h ρ m)
        (evaluate-among b τ h ρ m)
    evaluate-among (shifted a b) τ h ρ m =
        operated-among (live_block m) shift (evaluate a τ ρ m) (evaluate b τ ρ m) (evaluate-among a τ h ρ m)
        (evaluate-among b τ h ρ m)

    pub find_place-among : {T : Type 0} (p : Place T) (τ : Holding T) → ((t : T) → EvaluatedAmong G numbers (held (τ t)))
        → (ρ : Variables) (m : Memory) → FoundAmong numbers (find_place p τ ρ m)
    find_place-among (variable x) τ h ρ m = tt
    find_place-among (pointed e) τ h ρ m = pointed_by-among (evaluate e τ ρ m) (evaluate-among e τ h ρ m)
    find_place-among (temporary t) τ h ρ m = pointed_by-among (held (τ t)) (h t)

  query_memory-among : (q : Query) (m : Memory) (v : Value) → EvaluatedAmong G numbers (query_memory q m v)
  query_memory-among q m v = query_memory-gives G (StopsAmong numbers) integers pointers operations q m v

  pub evaluate_term-among : (t : Term) (ρ : Variables) (m : Memory) → EvaluatedAmong G numbers (evaluate_term t ρ m)
  unfolding evaluate_term
  evaluate_term-among (value e) ρ m = evaluate-among e no_temporaries (λ t. elim t [ ]) ρ m
  evaluate_term-among (asked q t) ρ m =
      among-value (evaluate_term t ρ m) _ (evaluate_term-among t ρ m) (λ v u. query_memory-among q m v)
  evaluate_term-among (combined o a b) ρ m =
      operated-among (live_block m) o (evaluate_term a ρ m) (evaluate_term b ρ m) (evaluate_term-among a ρ m)
      (evaluate_term-among b ρ m)

  tested-then : (v : Value) (x y : Evaluated) → EvaluatedAmong G numbers x → EvaluatedAmong G numbers y
      → EvaluatedAmong G numbers (on_test (tested v) Err x y)
  tested-then v x y p q =
      on-test (EvaluatedAmong G numbers) (StopsAmong numbers) Err (λ c h. h) (tested v) x y
      (tested-among v) p q

  pub evaluate_predicate-among : (p : Predicate) (ρ : Variables) (m : Memory)
      → EvaluatedAmong G numbers (evaluate_predicate p ρ m)
  unfolding evaluate_predicate
  evaluate_predicate-among (holds q t) ρ m =
      among-value (evaluate_term t ρ m) _ (evaluate_term-among t ρ m) (λ v u. query_memory-among q m v)
  evaluate_predicate-among (compared o a b) ρ m =
      operated-among (live_block m) o (evaluate_term a ρ m) (evaluate_term b ρ m) (evaluate_term-among a ρ m)
      (evaluate_term-among b ρ m)
  evaluate_predicate-among (negated a) ρ m =
      among-value (evaluate_predicate a ρ m) _ (evaluate_predicate-among a ρ m) (λ v u. opposite-among v)
  evaluate_predicate-among (both a b) ρ m =
      among-value (evaluate_predicate a ρ m) _ (evaluate_predicate-among a ρ m) (λ v u.
      tested-then v (evaluate_predicate b ρ m) (Ok v) (evaluate_predicate-among b ρ m) u)
  evaluate_predicate-among (either a b) ρ m =
      among-value (evaluate_predicate a ρ m) _ (evaluate_predicate-among a ρ m) (λ v u.
      tested-then v (Ok v) (evaluate_predicate b ρ m) u (evaluate_predicate-among b ρ m))
