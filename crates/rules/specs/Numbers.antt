-- The operators on values.
use Rattle.std.specs.Prelude.{ℕ, ◌+◌, ◌*◌, ◌/◌, ◌%◌, ◌^◌, ◌≤◌, Bool, true, false, not, cond, ◌&&◌, ◌≡◌, ltb, eqb, ℤ}
use Rattle.std.specs.Prelude.{pos, negsuc, neg_ℤ, nat_abs, ◌+ℤ◌, ◌-ℤ◌, ◌*ℤ◌, Err, Ok}
use Rattle.std.specs.Bool.{beq}
use Rattle.std.specs.Int.Signed.{le_z}
use Rattle.rules.specs.Types.{Pointer, Value, Evaluated, Test, Number, Stop}
use Rattle.rules.specs.Trees.{Operator, add, subtract, multiply, divide, nearest, at_most, equal, shift}

-- a signed 64-bit number: −2^63 .. 2^63 − 1
abbrev pub in_range : ℤ → Bool
in_range (pos n) = ltb n (2 ^ 63)
in_range (negsuc n) = ltb n (2 ^ 63)

abbrev pub ranged : ℤ → Number
ranged z = cond (in_range z) (Ok z) (Err Stop.Overflow)

abbrev pub is_negative : ℤ → Bool
is_negative (pos n) = false
is_negative (negsuc n) = true

-- the number of a sign and a magnitude
abbrev pub signed : Bool → ℕ → ℤ
signed false n = pos n
signed true n = neg_ℤ (pos n)

abbrev pub signs_differ : ℤ → ℤ → Bool
signs_differ x y = not (beq (is_negative x) (is_negative y))

-- magnitudes divided "toward zero"
abbrev pub toward_zero : ℕ → ℕ → ℕ
toward_zero x y = x / y

-- 02 §1: "the nearest whole number, but an exact half now goes to the even one". With quotient q and remainder r of
-- magnitudes by y, one more than q is taken where r is over half of y, and at an exact half where q is odd.
abbrev pub rounds_up : ℕ → ℕ → ℕ → Bool
rounds_up q r y = cond (eqb (2 * r) y) (eqb (q % 2) 1) (ltb y (2 * r))

abbrev pub to_nearest : ℕ → ℕ → ℕ
to_nearest x y = cond (rounds_up (x / y) (x % y) y) (x / y + 1) (x / y)

-- x by y, their magnitudes' quotient rounded; negative where one of x and y is
abbrev pub quotient_of : (ℕ → ℕ → ℕ) → ℤ → ℤ → ℤ
quotient_of rounded x y = signed (signs_differ x y) (rounded (nat_abs x) (nat_abs y))

-- "44 zero divisor" before "43 overflow"
abbrev pub divided : (ℕ → ℕ → ℕ) → ℤ → ℤ → Number
divided rounded x y = cond (eqb (nat_abs y) 0) (Err Stop.ZeroDivisor) (ranged (quotient_of rounded x y))

-- 02 §1 without a formula, for an office to hold against its own rule: q times y lies within half of y from x, and
-- where it lies at exactly a half q is even.
pub record IsNearest (x y q : ℤ) : Type 0 where
  pub within : 2 * nat_abs (x -ℤ q *ℤ y) ≤ nat_abs y
  pub even : 2 * nat_abs (x -ℤ q *ℤ y) ≡ nat_abs y → nat_abs q % 2 ≡ 0

abbrev pub same_integer : ℤ → ℤ → Bool
same_integer (pos x) (pos y) = eqb x y
same_integer (pos x) (negsuc y) = false
same_integer (negsuc x) (pos y) = false
same_integer (negsuc x) (negsuc y) = eqb x y

-- "two pointers (same name and offset)"
abbrev pub same_pointer : Pointer → Pointer → Bool
same_pointer p q = eqb p.name q.name && same_integer p.offset q.offset

-- by what an operator on integers gave
abbrev pub on_number : {A : Type 0} → (ℤ → A) → (Stop → A) → Number → A
on_number is stop (Ok z) = is z
on_number is stop (Err c) = stop c

abbrev pub integer_value : ℤ → Evaluated
integer_value z = Ok (Value.Integer z)

abbrev pub numbered : Number → Evaluated
numbered n = on_number integer_value Err n

-- "Operators 6 and 7 and queries 1 and 2 give 1 or 0."
abbrev pub truth : Bool → Value
truth true = Value.Integer (pos 1)
truth false = Value.Integer (pos 0)

abbrev pub truth_value : Bool → Evaluated
truth_value b = Ok (truth b)

-- "operators 1–6 take integers"; a shift takes a pointer first: "40 wrong sort of value"
unfoldable pub on_integers : Operator → ℤ → ℤ → Evaluated
on_integers add x y = numbered (ranged (x +ℤ y))
on_integers subtract x y = numbered (ranged (x -ℤ y))
on_integers multiply x y = numbered (ranged (x *ℤ y))
on_integers divide x y = numbered (divided toward_zero x y)
on_integers nearest x y = numbered (divided to_nearest x y)
on_integers at_most x y = truth_value (le_z x y)
on_integers equal x y = truth_value (same_integer x y)
on_integers shift x y = Err Stop.WrongSort

-- "A shift may leave the block": only the offset's 64 bits are asked
abbrev pub moved : Pointer → Number → Evaluated
moved p n =
    on_number (λ z. Ok (Value.Pointer (record { name = p.name; offset = z }))) Err n

unfoldable pub on_pointer_and_integer : Operator → Pointer → ℤ → Evaluated
on_pointer_and_integer shift p y = moved p (ranged (p.offset +ℤ y))
on_pointer_and_integer add p y = Err Stop.WrongSort
on_pointer_and_integer subtract p y = Err Stop.WrongSort
on_pointer_and_integer multiply p y = Err Stop.WrongSort
on_pointer_and_integer divide p y = Err Stop.WrongSort
on_pointer_and_integer nearest p y = Err Stop.WrongSort
on_pointer_and_integer at_most p y = Err Stop.WrongSort
on_pointer_and_integer equal p y = Err Stop.WrongSort

-- whether the block of each name is live, as told by the memory that an operation asks
abbrev pub Liveness : Type 0
Liveness = ℕ → Bool

-- 02 §4: "Operator 7 with a pointer into a dead block on either side ends 47"
abbrev pub compared_pointers : Liveness → Pointer → Pointer → Evaluated
compared_pointers live p q =
    cond (live p.name && live q.name) (truth_value (same_pointer p q)) (Err Stop.NotLive)

-- "Equality takes two integers or two pointers"
unfoldable pub on_pointers : Liveness → Operator → Pointer → Pointer → Evaluated
on_pointers live equal p q = compared_pointers live p q
on_pointers live add p q = Err Stop.WrongSort
on_pointers live subtract p q = Err Stop.WrongSort
on_pointers live multiply p q = Err Stop.WrongSort
on_pointers live divide p q = Err Stop.WrongSort
on_pointers live nearest p q = Err Stop.WrongSort
on_pointers live at_most p q = Err Stop.WrongSort
on_pointers live shift p q = Err Stop.WrongSort

-- an operator on two values. 02 §4: "The order for one operation becomes 49, 40, 47, 44, 43."
unfoldable pub operate : Liveness → Operator → Value → Value → Evaluated
operate live o Value.Undefined y = Err Stop.WrongSort
operate live o (Value.Integer x) Value.Undefined = Err Stop.WrongSort
operate live o (Value.Integer x) (Value.Integer y) = on_integers o x y
operate live o (Value.Integer x) (Value.Pointer q) = Err Stop.WrongSort
operate live o (Value.Pointer p) Value.Undefined = Err Stop.WrongSort
operate live o (Value.Pointer p) (Value.Integer y) = on_pointer_and_integer o p y
operate live o (Value.Pointer p) (Value.Pointer q) = on_pointers live o p q

-- "Conditions are integers, true when not 0"
abbrev pub tested : Value → Test
tested Value.Undefined = Err Stop.WrongSort
tested (Value.Integer z) = cond (same_integer z (pos 0)) (Ok false) (Ok true)
tested (Value.Pointer p) = Err Stop.WrongSort
