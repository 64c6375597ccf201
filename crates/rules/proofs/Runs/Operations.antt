-- What operators, queries and tests give: a value of which G holds, or a stop with a number of which C does.
use Prim.Native.Nat.{ℕ}
use mathlib.Core.Bool.{Bool, true, false, cond, ◌&&◌}
use mathlib.Core.Path.{◌≡◌, refl}
use lib.Dec.{eqb}
use lib.IntN.{ℤ, pos, nat_abs, ◌+ℤ◌, ◌-ℤ◌, ◌*ℤ◌}
use lib.Signed.{le_z}
use Rattle.std.specs.Prelude.{Err, Ok}
use Rattle.rules.specs.Types.{Pointer, Value, Evaluated, Number, Recorded, Stop}
use Rattle.rules.specs.Trees.{Query, valid, initialised, base, offset, block_length}
use Rattle.rules.specs.Trees.{Operator, add, subtract, multiply, divide, nearest, at_most, equal, shift}
use Rattle.rules.specs.Numbers.{in_range, ranged, quotient_of, toward_zero, to_nearest, divided}
use Rattle.rules.specs.Numbers.{on_number, numbered, truth_value, on_integers, on_pointer_and_integer, on_pointers}
use Rattle.rules.specs.Numbers.{Liveness, operate, same_integer, same_pointer, tested}
use Rattle.rules.specs.Memory.{Memory, block_of, cell_of, recorded_of, located_in}
use Rattle.rules.specs.Evaluation.{operated, opposite, condition, is_initialised, is_valid, initialised_at, of_live}
use Rattle.rules.specs.Evaluation.{queried, query_memory}
use Rattle.rules.specs.Answers.{operation_endings}
use Rattle.rules.proofs.Lists.Among.{StopsAmong}
use Rattle.rules.proofs.Runs.Keeping.{AnyValue, Gives, TestStops, on_value_lem, on-pointer, on-test}

-- a number that was worked out is in range
abbrev FitsNumber : Number → Type 0
FitsNumber (Ok z) = in_range z ≡ true
FitsNumber (Err c) = StopsAmong operation_endings c

ranged-fits : (z : ℤ) → FitsNumber (ranged z)
ranged-fits z = pick (in_range z) refl
  where
    pick : (b : Bool) → in_range z ≡ b → FitsNumber (cond b (Ok z) (Err Stop.Overflow))
    pick true e = e
    pick false e = refl

divided-fits : (rounded : ℕ → ℕ → ℕ) (x y : ℤ) → FitsNumber (divided rounded x y)
divided-fits rounded x y = pick (eqb (nat_abs y) 0)
  where
    pick : (b : Bool) → FitsNumber (cond b (Err Stop.ZeroDivisor) (ranged (quotient_of rounded x y)))
    pick true = refl
    pick false = ranged-fits (quotient_of rounded x y)

module _ (G : Value → Type 0) (C : Stop → Type 0) (numbers : (z : ℤ) → in_range z ≡ true → G (Value.Integer z))
    (moves : (p : Pointer) (z : ℤ) → G (Value.Pointer p) → in_range z ≡ true
    → G (Value.Pointer (record { name = p.name; offset = z })))
    (stops : (c : Stop) → StopsAmong operation_endings c → C c) where
  on_number-gives : (is : ℤ → Evaluated) (n : Number) → FitsNumber n
      → ((z : ℤ) → in_range z ≡ true → Gives G C (is z)) → Gives G C (on_number is Err n)
  on_number-gives is (Ok z) h g = g z h
  on_number-gives is (Err c) h g = stops c h

  numbered-gives : (n : Number) → FitsNumber n → Gives G C (numbered n)
  numbered-gives n h = on_number-gives _ n h numbers

  pub truth-gives : (b : Bool) → Gives G C (truth_value b)
  truth-gives true = numbers (pos 1) refl
  truth-gives false = numbers (pos 0) refl

  on_integers-gives : (o : Operator) (x y : ℤ) → Gives G C (on_integers o x y)
  unfolding on_integers
  on_integers-gives add x y = numbered-gives (ranged (x +ℤ y)) (ranged-fits (x +ℤ y))
  on_integers-gives subtract x y = numbered-gives (ranged (x -ℤ y)) (ranged-fits (x -ℤ y))
  on_integers-gives multiply x y = numbered-gives (ranged (x *ℤ y)) (ranged-fits (x *ℤ y))
  on_integers-gives divide x y = numbered-gives (divided toward_zero x y) (divided-fits toward_zero x y)
  on_integers-gives nearest x y = numbered-gives (divided to_nearest x y) (divided-fits to_nearest x y)
  on_integers-gives at_most x y = truth-gives (le_z x y)
  on_integers-gives equal x y = truth-gives (same_integer x y)
  on_integers-gives shift x y = stops _ refl

  on_pointer_and_integer-gives : (o : Operator) (p : Pointer) (y : ℤ) → G (Value.Pointer p)
      → Gives G C (on_pointer_and_integer o p y)
  unfolding on_pointer_and_integer
  on_pointer_and_integer-gives shift p y h =
      on_number-gives _ (ranged (p.offset +ℤ y)) (ranged-fits (p.offset +ℤ y)) (λ z e. moves p z h e)
  on_pointer_and_integer-gives add p y h = stops _ refl
  on_pointer_and_integer-gives subtract p y h = stops _ refl
  on_pointer_and_integer-gives multiply p y h = stops _ refl
  on_pointer_and_integer-gives divide p y h = stops _ refl
  on_pointer_and_integer-gives nearest p y h = stops _ refl
  on_pointer_and_integer-gives at_most p y h = stops _ refl
  on_pointer_and_integer-gives equal p y h = stops _ refl

  on_pointers-gives : (live : Liveness) (o : Operator) (p q : Pointer) → Gives G C (on_pointers live o p q)
  unfolding on_pointers
  on_pointers-gives live equal p q = pick (live p.name && live q.name)
    where
      pick : (b : Bool) → Gives G C (cond b (truth_value (same_pointer p q)) (Err Stop.NotLive))
      pick true = truth-gives (same_pointer p q)
      pick false = stops _ refl
  on_pointers-gives live add p q = stops _ refl
  on_pointers-gives live subtract p q = stops _ refl
  on_pointers-gives live multiply p q = stops _ refl
  on_pointers-gives live divide p q = stops _ refl
  on_pointers-gives live nearest p q = stops _ refl
  on_pointers-gives live at_most p q = stops _ refl
  on_pointers-gives live shift p q = stops _ refl

  pub operate-gives : (live : Liveness) (o : Operator) (x y : Value) → G x → Gives G C (operate live o x y)
  unfolding operate
  operate-gives live o Value.Undefined y h = stops _ refl
  operate-gives live o (Value.Integer x) Value.Undefined h = stops _ refl
  operate-gives live o (Value.Integer x) (Value.Integer y) h = on_integers-gives o x y
  operate-gives live o (Value.Integer x) (Value.Pointer q) h = stops _ refl
  operate-gives live o (Value.Pointer p) Value.Undefined h = stops _ refl
  operate-gives live o (Value.Pointer p) (Value.Integer y) h = on_pointer_and_integer-gives o p y h
  operate-gives live o (Value.Pointer p) (Value.Pointer q) h = on_pointers-gives live o p q

  pub operated-gives : (live : Liveness) (o : Operator) (a b : Evaluated) → Gives G C a → Gives G C b
      → Gives G C (operated live o a b)
  operated-gives live o a b g h =
      on_value_lem (Gives G C) C Err (λ c x. x) a _ g (λ x u.
      on_value_lem (Gives G C) C Err (λ c x. x) b _ h (λ y w. operate-gives live o x y u))

  pub tested-stops : (v : Value) → TestStops C (tested v)
  tested-stops Value.Undefined = stops _ refl
  tested-stops (Value.Integer z) = pick (same_integer z (pos 0))
    where
      pick : (b : Bool) → TestStops C (cond b (Ok false) (Ok true))
      pick true = tt
      pick false = tt
  tested-stops (Value.Pointer p) = stops _ refl

  pub condition-stops : (e : Evaluated) → Gives G C e → TestStops C (condition e)
  condition-stops e h = on_value_lem (TestStops C) C Err (λ c x. x) e tested h (λ v u. tested-stops v)

  pub opposite-gives : (v : Value) → Gives G C (opposite v)
  opposite-gives v =
      on-test (Gives G C) C Err (λ c x. x) (tested v) _ _ (tested-stops v)
      (truth-gives false) (truth-gives true)

-- where G holds of every defined value
module _ (G : Value → Type 0) (C : Stop → Type 0) (integers : (z : ℤ) → G (Value.Integer z))
    (pointers : (p : Pointer) → G (Value.Pointer p)) (stops : (c : Stop) → StopsAmong operation_endings c → C c) where
  query-truth : (b : Bool) → Gives G C (truth_value b)
  query-truth b = truth-gives G C (λ z e. integers z) (λ p z g e. pointers _) stops b

  of_live-gives : (b : Recorded) (f : ℕ → Value) → ((n : ℕ) → G (f n)) → Gives G C (of_live b f)
  of_live-gives Recorded.Unused f g = stops Stop.NotLive refl
  of_live-gives (Recorded.Live first n) f g = g n
  of_live-gives Recorded.Dead f g = stops Stop.NotLive refl

  pub queried-gives : (q : Query) (b : Recorded) (marked : ℕ → Bool) (p : Pointer) → Gives G C (queried q b marked p)
  unfolding queried
  queried-gives valid b marked p = query-truth (is_valid (located_in b p.offset))
  queried-gives initialised b marked p = query-truth (initialised_at marked (located_in b p.offset))
  queried-gives base b marked p = of_live-gives b _ (λ n. pointers _)
  queried-gives offset b marked p = of_live-gives b _ (λ n. integers _)
  queried-gives block_length b marked p = of_live-gives b _ (λ n. integers _)

  pub query_memory-gives : (q : Query) (m : Memory) (v : Value) → Gives G C (query_memory q m v)
  query_memory-gives q m v =
      on-pointer (Gives G C) C Err (λ c x. x) AnyValue v _ (stops Stop.WrongSort refl) tt
      (λ p u. queried-gives q (recorded_of (block_of m p.name)) (λ i. is_initialised (cell_of m i)) p)
