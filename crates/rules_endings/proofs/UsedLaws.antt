-- Where evaluating stops with 42 or 50, the pointer that was used tells why.
use Prim.Native.Nat.{ℕ, ◌+◌}
use native.Mathlib.Omega.{arith}
use mathlib.Core.Bool.{Bool, true, false, cond, true≢false}
use mathlib.Core.Logic.{◌≢◌}
use mathlib.Core.Option.{Option, none, some}
use mathlib.Core.Path.{◌≡◌, refl, sym, ap, ◌∙◌}
use lib.Dec.{ltb}
use lib.IntN.{ℤ, pos, negsuc}
use borrow.Author.Tests.{ltb-false}
use Rattle.std.specs.Prelude.{Err, None, Ok, Some}
use Rattle.rules.specs.Types.{Evaluated, Found, Test, Located, Temporary, stop_number}
use Rattle.rules.specs.declared.{Pointer.Pointer, Value.Value, Block.Block, Recorded.Recorded, Cell.Cell, Miss.Miss}
use Rattle.rules.specs.declared.{Stop.Stop}
use Rattle.rules.specs.Trees.{Operator, shift, Query, Expression, literal, read, address, operation, shifted, Place}
use Rattle.rules.specs.Trees.{variable, pointed, temporary, Term, value, asked, combined, Predicate, holds, compared}
use Rattle.rules.specs.Trees.{negated, both, either}
use Rattle.rules.specs.Numbers.{tested}
use Rattle.rules.specs.Memory.{Memory, recorded_of, block_of, cell_of, located_in, locate, at_cell, defined, read_cell}
use Rattle.rules.specs.Memory.{is_unused, on_value, on_place, live_block}
use Rattle.rules.specs.Evaluation.{Variables, Holding, no_temporaries, held, pointed_by, address_of, operated, evaluate}
use Rattle.rules.specs.Evaluation.{find_place, evaluate_term, evaluate_predicate, query_memory, on_test, opposite, condition}
use Rattle.rules.specs.Answers.{operation_endings}
use Rattle.rules.proofs.Lists.Among.{StopsAmong, among-not}
use Rattle.rules.proofs.Runs.EvaluatedValues.{CellHas, TemporaryHas}
use Rattle.rules.proofs.Runs.Keeping.{AnyValue, Gives, Finds, TestStops, on_value_lem, on-pointer}
use Rattle.rules.proofs.Runs.Operations.{operate-gives, query_memory-gives, tested-stops, condition-stops}
use Rattle.rules.proofs.Runs.Operations.{opposite-gives}
use Rattle.rules_endings.specs.UsedPointers.{astray, in_turn, used_by, used_to, used_by_term, unless_decided}
use Rattle.rules_endings.specs.UsedPointers.{used_by_predicate, IsDead, IsOutside, ToldApart}

-- a name was given: its block is not unused
abbrev pub IsNamed : Memory → ℕ → Type 0
IsNamed m k = is_unused (block_of m k) ≡ false

abbrev pub NamedValue : Memory → Value → Type 0
NamedValue m Value.Undefined = Unit {0}
NamedValue m (Value.Integer z) = Unit {0}
NamedValue m (Value.Pointer p) = IsNamed m p.name

abbrev pub VariablesNamed : Variables → Memory → Type 0
VariablesNamed ρ m = (x : ℕ) → IsNamed m (ρ x)

-- every pointer that evaluating can find has a name that was given
pub record PointersNamed {T : Type 0} (τ : Holding T) (ρ : Variables) (m : Memory) : Type 0 where
  pub cells : (i : ℕ) → CellHas (NamedValue m) (cell_of m i)
  pub temporaries : (t : T) → TemporaryHas (NamedValue m) (τ t)
  pub variables : VariablesNamed ρ m

-- why a pointer leads to no cell
pub data Whereabouts (m : Memory) (p : Pointer) : Located → Type 0 where
  at : (i : ℕ) → Whereabouts m p (Ok i)
  dead : (IsNamed m p.name → IsDead m p) → Whereabouts m p (Err Miss.Dead)
  outside : IsOutside m p → Whereabouts m p (Err Miss.Outside)

pub whereabouts : (m : Memory) (p : Pointer) → Whereabouts m p (locate m p)
unfolding locate
whereabouts m p = go (block_of m p.name) p.offset refl refl
  where
    inner : (first n : ℕ) (z : ℤ) → recorded_of (block_of m p.name) ≡ Recorded.Live first n → p.offset ≡ z
        → Whereabouts m p (located_in (Recorded.Live first n) z)
    inner first n (negsuc o) e d = outside (record { first = first; length = n; live = e; outside = rw d tt })
    inner first n (pos o) e d = pick (ltb o n) refl
      where
        pick : (b : Bool) → ltb o n ≡ b → Whereabouts m p (cond b (Ok (first + o)) (Err Miss.Outside))
        pick true h = at (first + o)
        pick false h =
            outside (record { first = first; length = n; live = e; outside = rw d (ltb-false o n h) })

    go : (b : Block) (z : ℤ) → block_of m p.name ≡ b → p.offset ≡ z → Whereabouts m p (located_in (recorded_of b) z)
    go Block.Unused z e d = dead (λ n. absurd (true≢false (sym (ap is_unused e) ∙ n)))
    go (Block.Fixed first n) z e d = inner first n z (ap recorded_of e) d
    go (Block.Freeable first n) z e d = inner first n z (ap recorded_of e) d
    go Block.Dead z e d = dead (λ n. e)

module _ (m : Memory) where
  -- other numbers tell nothing
  pub other : (u : Option Pointer) (c : Stop) → stop_number c ≢ 42 → stop_number c ≢ 50 → ToldApart c m u
  other u c d o = record { dead = λ h. absurd (d h); outside = λ h. absurd (o h) }

  pub used-dead : (p : Pointer) → IsDead m p → ToldApart Stop.DeadBlock m (some p)
  used-dead p h = record {
    dead = λ e. record { pointer = p; used = refl; is = h };
    outside = λ e. absurd (omega (arith, e));
  }

  pub used-outside : (p : Pointer) → IsOutside m p → ToldApart Stop.OutsideBlock m (some p)
  used-outside p h = record {
    dead = λ e. absurd (omega (arith, e));
    outside = λ e. record { pointer = p; used = refl; is = h };
  }

-- where every pointer has such a name
module _ {T : Type 0} (τ : Holding T) (ρ : Variables) (m : Memory) where
  -- a stop with a number, where u was used
  abbrev pub Tells : Option Pointer → Stop → Type 0
  Tells u c = PointersNamed τ ρ m → ToldApart c m u

  abbrev pub Named : Value → Type 0
  Named v = PointersNamed τ ρ m → NamedValue m v

  abbrev pub Told : Option Pointer → Evaluated → Type 0
  Told u e = Gives Named (Tells u) e

  abbrev pub FoundTold : Option Pointer → Found → Type 0
  FoundTold u f = Finds (λ p. Named (Value.Pointer p)) (Tells u) f

  pub operations : (u : Option Pointer) (c : Stop) → StopsAmong operation_endings c → Tells u c
  operations u c h n =
      other m u c (among-not operation_endings (stop_number c) 42 refl h)
      (among-not operation_endings (stop_number c) 50 refl h)

  -- G is of values, pointers with other offsets among them
  operated-told : (G : Value → Type 0) → ((z : ℤ) → G (Value.Integer z))
      → ((p : Pointer) (z : ℤ) → G (Value.Pointer p) → G (Value.Pointer (record { name = p.name; offset = z })))
      → (o : Operator) (a b : Evaluated) (u v : Option Pointer) → Gives G (Tells u) a → Gives G (Tells v) b
      → Gives G (Tells (in_turn a u v)) (operated (live_block m) o a b)
  operated-told G integers moves o (Err c) b u v h g = h
  operated-told G integers moves o (Ok x) (Err c) u v h g = g
  operated-told G integers moves o (Ok x) (Ok y) u v h g =
      operate-gives G (Tells v) (λ z e. integers z) (λ p z k e. moves p z k) (operations v) (live_block m) o x y h

  defined-told : (u : Option Pointer) (c : Cell) → (PointersNamed τ ρ m → CellHas (NamedValue m) c)
      → Told u (defined c)
  defined-told u Cell.Free h = λ n. other m u Stop.UndefinedCell (omega arith) (omega arith)
  defined-told u (Cell.Holds o Value.Undefined) h = λ n. other m u Stop.UndefinedCell (omega arith) (omega arith)
  defined-told u (Cell.Holds o (Value.Integer z)) h = λ n. tt
  defined-told u (Cell.Holds o (Value.Pointer p)) h = h

  read_told : (p : Pointer) → Named (Value.Pointer p) → Told (astray m p) (read_cell m p)
  read_told p h = go (locate m p) (whereabouts m p)
    where
      go : (l : Located) → Whereabouts m p l
          → Told (at_cell (λ i. none) (λ c. some p) l) (at_cell (λ i. defined (cell_of m i)) Err l)
      go _ (at i) = defined-told none (cell_of m i) (λ n. n.cells i)
      go _ (dead d) = λ n. used-dead m p (d (h n))
      go _ (outside d) = λ n. used-outside m p d

  reading-told : (f : Found) (u : Option Pointer) → FoundTold u f
      → Told (on_place f (λ c. u) (astray m)) (on_place f Err (read_cell m))
  reading-told (Err c) u h = h
  reading-told (Ok p) u h = read_told p h

  pub address-told : (f : Found) (u : Option Pointer) → FoundTold u f → Told u (address_of f)
  address-told (Err c) u h = h
  address-told (Ok p) u h = h

  pointed-told : (e : Evaluated) (u : Option Pointer) → Told u e → FoundTold u (pointed_by e)
  pointed-told e u h =
      on_value_lem (FoundTold u) (Tells u) Err (λ c x. x) e _ h (λ v k.
      on-pointer (FoundTold u) (Tells u) Err (λ c x. x) Named v Ok (operations u Stop.WrongSort refl) k
      (λ p l. l))

  -- "49 empty temporary"
  held-told : (G : Value → Type 0) (u : Option Pointer) (t : Temporary) → TemporaryHas G t
      → Gives G (Tells u) (held t)
  held-told G u None h = λ n. other m u Stop.EmptyTemporary (omega arith) (omega arith)
  held-told G u (Some v) h = h

  temporary-named : (t : Temporary) → (PointersNamed τ ρ m → TemporaryHas (NamedValue m) t) → TemporaryHas Named t
  temporary-named None h = tt
  temporary-named (Some v) h = h

  pub any_held : (u : Option Pointer) (t : Temporary) → Gives AnyValue (Tells u) (held t)
  any_held u None = held-told AnyValue u None tt
  any_held u (Some v) = tt

  mutual
    unfolding evaluate used_by

    pub evaluate-told : (e : Expression T) → Told (used_by e τ ρ m) (evaluate e τ ρ m)
    evaluate-told (literal z) = λ n. tt
    evaluate-told (read p) = reading-told (find_place p τ ρ m) (used_to p τ ρ m) (find_place-told p)
    evaluate-told (address p) = address-told (find_place p τ ρ m) (used_to p τ ρ m) (find_place-told p)
    evaluate-told (operation o a b) =
        operated-told Named (λ z n. tt) (λ p z k. k) o (evaluate a τ ρ m) (evaluate b τ ρ m) (used_by a τ ρ m)
        (used_by b τ ρ m) (evaluate-told a) (evaluate-told b)
    evaluate-told (shifted a b) =
        operated-told Named (λ z n. tt) (λ p z k. k) shift (evaluate a τ ρ m) (evaluate b τ ρ m) (used_by a τ ρ m)
        (used_by b τ ρ m) (evaluate-told a) (evaluate-told b)

    pub find_place-told : (p : Place T) → FoundTold (used_to p τ ρ m) (find_place p τ ρ m)
    find_place-told (variable x) = λ n. n.variables x
    find_place-told (pointed e) = pointed-told (evaluate e τ ρ m) (used_by e τ ρ m) (evaluate-told e)
    find_place-told (temporary t) =
        pointed-told (held (τ t)) none (held-told Named none (τ t) (temporary-named (τ t) (λ n. n.temporaries t)))

  pub any_value : (u : Option Pointer) (e : Evaluated) → Told u e → Gives AnyValue (Tells u) e
  any_value u (Ok v) h = tt
  any_value u (Err c) h = h

  pub condition-told : (u : Option Pointer) (e : Evaluated) → Gives AnyValue (Tells u) e
      → TestStops (Tells u) (condition e)
  condition-told u e h = condition-stops AnyValue (Tells u) (λ z k. tt) (λ p z k l. tt) (operations u) e h

  pub decided-by : (e : Expression T) → TestStops (Tells (used_by e τ ρ m)) (condition (evaluate e τ ρ m))
  decided-by e =
      condition-told (used_by e τ ρ m) (evaluate e τ ρ m)
      (any_value (used_by e τ ρ m) (evaluate e τ ρ m) (evaluate-told e))

-- terms and predicates, which read no cell but through expressions
module _ (ρ : Variables) (m : Memory) where
  abbrev pub SourceTells : Option Pointer → Stop → Type 0
  SourceTells u c = Tells no_temporaries ρ m u c

  abbrev Asserted : Option Pointer → Evaluated → Type 0
  Asserted u e = Gives AnyValue (SourceTells u) e

  asked-told : (q : Query) (e : Evaluated) (u : Option Pointer) → Asserted u e
      → Asserted u (on_value e Err (query_memory q m))
  asked-told q e u h =
      on_value_lem (Asserted u) (SourceTells u) Err (λ c x. x) e _ h (λ v k.
      query_memory-gives AnyValue (SourceTells u) (λ z. tt) (λ p. tt) (operations no_temporaries ρ m u) q m v)

  term_told : (t : Term) → Asserted (used_by_term t ρ m) (evaluate_term t ρ m)
  unfolding evaluate_term
  term_told (value e) =
      any_value no_temporaries ρ m (used_by e no_temporaries ρ m) (evaluate e no_temporaries ρ m)
      (evaluate-told no_temporaries ρ m e)
  term_told (asked q t) = asked-told q (evaluate_term t ρ m) (used_by_term t ρ m) (term_told t)
  term_told (combined o a b) =
      operated-told no_temporaries ρ m AnyValue (λ z. tt) (λ p z k. tt) o (evaluate_term a ρ m) (evaluate_term b ρ m)
      (used_by_term a ρ m) (used_by_term b ρ m) (term_told a) (term_told b)

  -- 'and' and 'or': x where the first is true, y where it is 0
  decided-told : (a : Evaluated) (x y : Value → Evaluated) (u v w : Option Pointer) → Asserted u a
      → ((z : Value) → Asserted v (x z)) → ((z : Value) → Asserted w (y z))
      → Asserted (unless_decided a u v w)
      (on_value a Err (λ z. on_test (tested z) Err (x z) (y z)))
  decided-told (Err c) x y u v w h g k = h
  decided-told (Ok z) x y u v w h g k =
      go (tested z)
      (tested-stops AnyValue (SourceTells none) (λ z k. tt) (λ p z k l. tt) (operations no_temporaries ρ m none) z)
    where
      go : (t : Test) → TestStops (SourceTells none) t
          → Asserted (on_test t (λ c. none) v w) (on_test t Err (x z) (y z))
      go (Ok true) s = g z
      go (Ok false) s = k z
      go (Err c) s = s

  pub predicate-told : (p : Predicate) → Asserted (used_by_predicate p ρ m) (evaluate_predicate p ρ m)
  unfolding evaluate_predicate
  predicate-told (holds q t) = asked-told q (evaluate_term t ρ m) (used_by_term t ρ m) (term_told t)
  predicate-told (compared o a b) =
      operated-told no_temporaries ρ m AnyValue (λ z. tt) (λ p z k. tt) o (evaluate_term a ρ m) (evaluate_term b ρ m)
      (used_by_term a ρ m) (used_by_term b ρ m) (term_told a) (term_told b)
  predicate-told (negated a) =
      let u = used_by_predicate a ρ m in
      on_value_lem (Asserted u) (SourceTells u) Err (λ c x. x) (evaluate_predicate a ρ m) opposite
      (predicate-told a) (λ v k.
      opposite-gives AnyValue (SourceTells u) (λ z l. tt) (λ p z l n. tt) (operations no_temporaries ρ m u) v)
  predicate-told (both a b) =
      decided-told (evaluate_predicate a ρ m) (λ z. evaluate_predicate b ρ m) Ok (used_by_predicate a ρ m)
      (used_by_predicate b ρ m) none (predicate-told a) (λ z. predicate-told b) (λ z. tt)
  predicate-told (either a b) =
      decided-told (evaluate_predicate a ρ m) Ok (λ z. evaluate_predicate b ρ m) (used_by_predicate a ρ m)
      none (used_by_predicate b ρ m) (predicate-told a) (λ z. tt) (λ z. predicate-told b)
