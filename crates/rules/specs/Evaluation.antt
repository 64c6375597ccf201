-- Evaluating expressions and finding places, terms and predicates on the execution memory.
-- "Evaluation goes A, then B, then the operation".
use Rattle.std.specs.Prelude.{ℕ, Bool, true, false, cond, eqb, pos, Err, None, Ok, Some}
use Rattle.rules.specs.Types.{Pointer, Value, Evaluated, Found, Test, Located, Recorded, Cell, Temporary, Miss, Stop}
use Rattle.rules.specs.Trees.{Operator, shift, Query, valid, initialised, base, offset, block_length, Expression}
use Rattle.rules.specs.Trees.{literal, read, address, operation, shifted, Place, variable, pointed, temporary}
use Rattle.rules.specs.Trees.{Term, value, asked, combined, Predicate, holds, compared, negated, both, either}
use Rattle.rules.specs.Numbers.{Liveness, operate, truth_value, tested}
use Rattle.rules.specs.Memory.{Memory, recorded_of, block_of, cell_of, located_in, read_cell, on_value}
use Rattle.rules.specs.Memory.{live_block, on_place, on_pointer}

-- the block of each variable
abbrev pub Variables : Type 0
Variables = ℕ → ℕ

-- the temporaries, by what names them; a source table has none
abbrev pub Holding : Type 0 → Type 0
Holding T = T → Temporary

abbrev pub no_temporaries : Holding ⊥
no_temporaries t = None

-- "49 empty temporary"
abbrev pub held : Temporary → Evaluated
held None = Err Stop.EmptyTemporary
held (Some v) = Ok v

-- a place that a value points to, "as soon as the place is worked out"
abbrev pub pointed_by : Evaluated → Found
pointed_by e = on_value e Err (λ v. on_pointer v Err Ok)

abbrev pub address_of : Found → Evaluated
address_of f = on_place f Err (λ p. Ok (Value.Pointer p))

-- A, then B, then the operation
abbrev pub operated : Liveness → Operator → Evaluated → Evaluated → Evaluated
operated live o a b = on_value a Err (λ x. on_value b Err (λ y. operate live o x y))

-- "Places evaluate expressions and expressions read places."
unfoldable mutual
  pub evaluate : {T : Type 0} → Expression T → Holding T → Variables → Memory → Evaluated
  evaluate (literal z) τ ρ m = Ok (Value.Integer z)
  evaluate (read p) τ ρ m = on_place (find_place p τ ρ m) Err (read_cell m)
  evaluate (address p) τ ρ m = address_of (find_place p τ ρ m)
  evaluate (operation o a b) τ ρ m = operated (live_block m) o (evaluate a τ ρ m) (evaluate b τ ρ m)
  evaluate (shifted a b) τ ρ m = operated (live_block m) shift (evaluate a τ ρ m) (evaluate b τ ρ m)

  pub find_place : {T : Type 0} → Place T → Holding T → Variables → Memory → Found
  find_place (variable x) τ ρ m = Ok (record { name = ρ x; offset = pos 0 })
  find_place (pointed e) τ ρ m = pointed_by (evaluate e τ ρ m)
  find_place (temporary t) τ ρ m = pointed_by (held (τ t))

-- "Initialised: valid and not undefined, otherwise false."
abbrev pub is_initialised : Cell → Bool
is_initialised Cell.Free = false
is_initialised (Cell.Holds o Value.Undefined) = false
is_initialised (Cell.Holds o (Value.Integer z)) = true
is_initialised (Cell.Holds o (Value.Pointer p)) = true

abbrev pub is_valid : Located → Bool
is_valid (Ok i) = true
is_valid (Err Miss.Dead) = false
is_valid (Err Miss.Outside) = false

abbrev pub initialised_at : (ℕ → Bool) → Located → Bool
initialised_at marked (Ok i) = marked i
initialised_at marked (Err Miss.Dead) = false
initialised_at marked (Err Miss.Outside) = false

-- "47 base, offset or length of a block not live"
abbrev pub of_live : Recorded → (ℕ → Value) → Evaluated
of_live Recorded.Unused f = Err Stop.NotLive
of_live (Recorded.Live first n) f = Ok (f n)
of_live Recorded.Dead f = Err Stop.NotLive

-- a query of a pointer whose block is b; marked tells the initialised cells
unfoldable pub queried : Query → Recorded → (ℕ → Bool) → Pointer → Evaluated
queried valid b marked p = truth_value (is_valid (located_in b p.offset))
queried initialised b marked p = truth_value (initialised_at marked (located_in b p.offset))
queried base b marked p = of_live b (λ n. Value.Pointer (record { name = p.name; offset = pos 0 }))
queried offset b marked p = of_live b (λ n. Value.Integer p.offset)
queried block_length b marked p = of_live b (λ n. Value.Integer (pos n))

-- "21–23, 30, 31 and 64 take a pointer"
abbrev pub query_memory : Query → Memory → Value → Evaluated
query_memory q m v =
    on_pointer v Err (λ p.
    queried q (recorded_of (block_of m p.name)) (λ i. is_initialised (cell_of m i)) p)

abbrev pub evaluate_source : Expression ⊥ → Variables → Memory → Evaluated
evaluate_source e ρ m = evaluate e no_temporaries ρ m

abbrev pub find_source : Place ⊥ → Variables → Memory → Found
find_source p ρ m = find_place p no_temporaries ρ m

unfoldable pub evaluate_term : Term → Variables → Memory → Evaluated
evaluate_term (value e) ρ m = evaluate_source e ρ m
evaluate_term (asked q t) ρ m = on_value (evaluate_term t ρ m) Err (query_memory q m)
evaluate_term (combined o a b) ρ m = operated (live_block m) o (evaluate_term a ρ m) (evaluate_term b ρ m)

-- by a test of a value: what to go on with where it is true, and where it is 0
abbrev pub on_test : {A : Type 0} → Test → (Stop → A) → A → A → A
on_test (Ok true) stop x y = x
on_test (Ok false) stop x y = y
on_test (Err k) stop x y = stop k

-- "65 tn takes 1 if t(n+1) is 0, else 0", and kind 33 alike
abbrev pub opposite : Value → Evaluated
opposite v = on_test (tested v) Err (truth_value false) (truth_value true)

-- "'and' and 'or' skip B when A decides"
abbrev pub and_then : Value → Evaluated → Evaluated
and_then v b = on_test (tested v) Err b (Ok v)

abbrev pub or_else : Value → Evaluated → Evaluated
or_else v b = on_test (tested v) Err (Ok v) b

unfoldable pub evaluate_predicate : Predicate → Variables → Memory → Evaluated
evaluate_predicate (holds q t) ρ m = on_value (evaluate_term t ρ m) Err (query_memory q m)
evaluate_predicate (compared o a b) ρ m = operated (live_block m) o (evaluate_term a ρ m) (evaluate_term b ρ m)
evaluate_predicate (negated a) ρ m = on_value (evaluate_predicate a ρ m) Err opposite
evaluate_predicate (both a b) ρ m =
    let later = evaluate_predicate b ρ m in
    on_value (evaluate_predicate a ρ m) Err (λ v. and_then v later)
evaluate_predicate (either a b) ρ m =
    let later = evaluate_predicate b ρ m in
    on_value (evaluate_predicate a ρ m) Err (λ v. or_else v later)

-- a condition: what an expression, a predicate or a temporary tells
abbrev pub condition : Evaluated → Test
condition e = on_value e Err tested

-- variable x has block k from here on
abbrev pub extend : Variables → ℕ → ℕ → Variables
extend ρ x k y = cond (eqb y x) k (ρ y)
