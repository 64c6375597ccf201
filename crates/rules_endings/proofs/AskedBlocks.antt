-- An operator asks its memory first and then gives what it gives where every block is live.
use mathlib.Core.Bool.{cond}
use mathlib.Core.Path.{◌≡◌, refl}
use Rattle.std.specs.Prelude.{Err}
use Rattle.rules.specs.declared.{Pointer.Pointer, Value.Value, Stop.Stop}
use Rattle.rules.specs.Trees.{Operator, add, subtract, multiply, divide, nearest, at_most, equal, shift}
use Rattle.rules.specs.Numbers.{Liveness, on_pointers, operate}
use Rattle.rules_endings.specs.ComparedBlocks.{compared_by, are_live, every_live}

-- that one operator asks as its definition says, for each pair of values
abbrev AsksFirst : Operator → Type 0
AsksFirst o =
    (live : Liveness) (x y : Value)
    → operate live o x y
    ≡ cond (are_live live (compared_by o x y)) (operate every_live o x y) (Err Stop.NotLive)

equality-asks : AsksFirst equal
unfolding operate on_pointers
equality-asks live Value.Undefined y = refl
equality-asks live (Value.Integer x) Value.Undefined = refl
equality-asks live (Value.Integer x) (Value.Integer y) = refl
equality-asks live (Value.Integer x) (Value.Pointer q) = refl
equality-asks live (Value.Pointer p) Value.Undefined = refl
equality-asks live (Value.Pointer p) (Value.Integer y) = refl
equality-asks live (Value.Pointer p) (Value.Pointer q) = refl

-- an operator that gives the same for two pointers whatever is live asks nothing
others-ask-nothing : (o : Operator)
    → ((live : Liveness) (p q : Pointer) → on_pointers live o p q ≡ on_pointers every_live o p q)
    → (live : Liveness) (x y : Value) → operate live o x y ≡ operate every_live o x y
unfolding operate
others-ask-nothing o h live Value.Undefined y = refl
others-ask-nothing o h live (Value.Integer x) Value.Undefined = refl
others-ask-nothing o h live (Value.Integer x) (Value.Integer y) = refl
others-ask-nothing o h live (Value.Integer x) (Value.Pointer q) = refl
others-ask-nothing o h live (Value.Pointer p) Value.Undefined = refl
others-ask-nothing o h live (Value.Pointer p) (Value.Integer y) = refl
others-ask-nothing o h live (Value.Pointer p) (Value.Pointer q) = h live p q

pub asks-first : (o : Operator) → AsksFirst o
unfolding on_pointers
asks-first add = others-ask-nothing add (λ live p q. refl)
asks-first subtract = others-ask-nothing subtract (λ live p q. refl)
asks-first multiply = others-ask-nothing multiply (λ live p q. refl)
asks-first divide = others-ask-nothing divide (λ live p q. refl)
asks-first nearest = others-ask-nothing nearest (λ live p q. refl)
asks-first at_most = others-ask-nothing at_most (λ live p q. refl)
asks-first equal = equality-asks
asks-first shift = others-ask-nothing shift (λ live p q. refl)
