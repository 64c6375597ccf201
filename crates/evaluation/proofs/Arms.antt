-- What each arm of `evaluate` and `find_place` gives, from what its calls gave.
use Prim.Native.Nat.{ℕ, ◌<◌}
use native.Mathlib.Omega.{arith}
use mathlib.Core.List.{List}
use mathlib.Core.Logic.{◌≢◌}
use mathlib.Core.Path.{◌≡◌, refl, sym, ap, ap₂, ◌∙◌, subst}
use lib.IntN.{ℤ, pos}
use Rattle.rules.specs.Records.{kind_of, mark_of, child_a, child_b, literal_of}
use Rattle.rules.specs.Kinds.{target, Sort, sort_number, expression, place, child}
use Rattle.rules.specs.Nodes.{operator_of, TargetNode, as_expression, as_place, sort_of_node, node_at}
use Rattle.rules.specs.Memory.{Memory, read_cell, on_place, live_block}
use Rattle.rules.specs.Evaluation.{Variables, Holding, held, pointed_by, address_of, operated, evaluate, find_place}
use Rattle.rules.proofs.Acceptance.KindViews.{TargetKind, literal, read, address, operation, shifted, variable, pointed}
use Rattle.rules.proofs.Acceptance.KindViews.{temporary}
use Rattle.rules.proofs.Acceptance.FormLaws.{FieldHolds}
use Rattle.rules.proofs.Acceptance.Standing.{stands, stands_at}
use Rattle.rules.proofs.Acceptance.SoundSource.{up_to}
use Rattle.table.specs.Within.{Within}
use Rattle.rules.specs.declared.{Value.Value}
use Rattle.rules.specs.Types.{Evaluated, Found}
use Rattle.evaluation.specs.State.{Settles}
use Rattle.std.specs.Prelude.{Err, Ok, Option, Some, None}

abbrev pub Stands : List ℕ → ℕ → Sort → Type 0
Stands t n s = sort_of_node target (node_at target t n) ≡ sort_number s

-- x is a child of record n, of sort s
abbrev pub Below : List ℕ → ℕ → Sort → ℕ → Type 0
Below t n s x = FieldHolds target t n (child s) x

pub within : (t : List ℕ) (n : ℕ) (s : Sort) → Stands t n s → Within t n
within t n s h =
    let r = stands target t n s h in
    (r.from_one, r.within)

module _ (t : List ℕ) (n : ℕ) where
  pub read_below : Stands t n expression → kind_of t n ≡ 2 → Below t n place (child_a t n)
  read_below h d = (stands_at target t n 2 expression h d).a

  pub address_below : Stands t n expression → kind_of t n ≡ 3 → Below t n place (child_a t n)
  address_below h d = (stands_at target t n 3 expression h d).a

  pub pointer-below : Stands t n place → kind_of t n ≡ 11 → Below t n expression (child_a t n)
  pointer-below h d = (stands_at target t n 11 place h d).a

  pub variable-mark : Stands t n place → kind_of t n ≡ 10 → mark_of t n < 64
  variable-mark h d = omega (arith, up_to 63 (mark_of t n) (stands_at target t n 10 place h d).mark)

  last-place : {k : ℕ} → TargetKind place k → k ≢ 10 → k ≢ 11 → k ≡ 12
  last-place variable a b = absurd (a refl)
  last-place pointed a b = absurd (b refl)
  last-place temporary a b = refl

  pub is-temporary : Stands t n place → kind_of t n ≢ 10 → kind_of t n ≢ 11 → kind_of t n ≡ 12
  is-temporary h a b = last-place (stands target t n place h).kind a b

  pub temporary-mark : Stands t n place → kind_of t n ≡ 12 → mark_of t n < 64
  temporary-mark h d = omega (arith, up_to 63 (mark_of t n) (stands_at target t n 12 place h d).mark)

module _ (t : List ℕ) (τ : Holding ℕ) (ρ : Variables) (m : Memory) where
  abbrev pub value_at : ℕ → Evaluated
  value_at x = evaluate (as_expression (node_at target t x)) τ ρ m

  abbrev pub found_at : ℕ → Found
  found_at x = find_place (as_place (node_at target t x)) τ ρ m

  by-node : {x y : TargetNode} → x ≡ y → evaluate (as_expression x) τ ρ m ≡ evaluate (as_expression y) τ ρ m
  by-node e = ap (λ (x : TargetNode). evaluate (as_expression x) τ ρ m) e

  by_place : {x y : TargetNode} → x ≡ y → find_place (as_place x) τ ρ m ≡ find_place (as_place y) τ ρ m
  by_place e = ap (λ (x : TargetNode). find_place (as_place x) τ ρ m) e

  module _ (n : ℕ) where
    pub literal-arm : {z : ℤ} → Stands t n expression → kind_of t n ≡ 1 → z ≡ literal_of t n
        → Ok (Value.Integer z) ≡ value_at n
    unfolding evaluate
    literal-arm h d e =
        ap (λ (z : ℤ). Ok (Value.Integer z)) e
        ∙ sym (by-node (stands_at target t n 1 expression h d).node)

    pub read-arm : {r : Evaluated} {f : Found} {j : ℕ} → Stands t n expression → kind_of t n ≡ 2
        → j ≡ child_a t n → f ≡ found_at j → r ≡ on_place f Err (read_cell m) → r ≡ value_at n
    unfolding evaluate
    read-arm h d e f r =
        r
        ∙ ap (λ (f : Found). on_place f Err (read_cell m)) (f ∙ ap found_at e)
        ∙ sym (by-node (stands_at target t n 2 expression h d).node)

    pub address-arm : {r : Evaluated} {f : Found} {j : ℕ} → Stands t n expression → kind_of t n ≡ 3
        → j ≡ child_a t n → f ≡ found_at j → r ≡ address_of f → r ≡ value_at n
    unfolding evaluate
    address-arm h d e f r =
        r ∙ ap address_of (f ∙ ap found_at e) ∙ sym (by-node (stands_at target t n 3 expression h d).node)

    -- an operator or a shift, whose mark is 0
    pub record Binary : Type 0 where
      pub a : Below t n expression (child_a t n)
      pub b : Below t n expression (child_b t n)
      pub value : value_at n
          ≡ operated (live_block m) (operator_of (mark_of t n)) (value_at (child_a t n)) (value_at (child_b t n))

    binary-kind : {k : ℕ} → TargetKind expression k → Stands t n expression → kind_of t n ≡ k
        → k ≢ 1 → k ≢ 2 → k ≢ 3 → Binary
    unfolding evaluate
    binary-kind literal h e a b c = absurd (a refl)
    binary-kind read h e a b c = absurd (b refl)
    binary-kind address h e a b c = absurd (c refl)
    binary-kind operation h e a b c =
        let f = stands_at target t n 4 expression h e in
        record { a = f.a; b = f.b; value = by-node f.node }
    binary-kind shifted h e a b c =
        let f = stands_at target t n 5 expression h e in
        record {
          a = f.a;
          b = f.b;
          value = by-node f.node
              ∙ sym (ap (λ (k : ℕ). operated (live_block m) (operator_of k) (value_at (child_a t n)) (value_at (child_b t n)))
              f.mark);
        }

    pub binary : Stands t n expression → kind_of t n ≢ 1 → kind_of t n ≢ 2 → kind_of t n ≢ 3 → Binary
    binary h a b c = binary-kind (stands target t n expression h).kind h refl a b c

    pub operation-arm : {r x y : Evaluated} {i j : ℕ} → Binary → i ≡ child_a t n → x ≡ value_at i
        → j ≡ child_b t n → y ≡ value_at j → r ≡ operated (live_block m) (operator_of (mark_of t n)) x y → r ≡ value_at n
    operation-arm h e x f y r =
        r ∙ ap₂ (operated (live_block m) (operator_of (mark_of t n))) (x ∙ ap value_at e) (y ∙ ap value_at f) ∙ sym h.value

    pub variable-arm : {v : ℕ} → Stands t n place → kind_of t n ≡ 10 → v ≡ mark_of t n
        → Ok (record { name = ρ v; offset = pos 0 }) ≡ found_at n
    unfolding evaluate
    variable-arm h d e =
        ap (λ (v : ℕ). Ok (record { name = ρ v; offset = pos 0 })) e
        ∙ sym (by_place (stands_at target t n 10 place h d).node)

    pub pointer-arm : {r : Found} {x : Evaluated} {i : ℕ} → Stands t n place → kind_of t n ≡ 11
        → i ≡ child_a t n → x ≡ value_at i → r ≡ pointed_by x → r ≡ found_at n
    unfolding evaluate
    pointer-arm h d e x r =
        r ∙ ap pointed_by (x ∙ ap value_at e) ∙ sym (by_place (stands_at target t n 11 place h d).node)

    pub temporary-arm : {r : Found} {x : Evaluated} {v : ℕ} → Stands t n place → kind_of t n ≡ 12
        → v ≡ mark_of t n → x ≡ held (τ v) → r ≡ pointed_by x → r ≡ found_at n
    unfolding evaluate
    temporary-arm h d e x r =
        r
        ∙ ap pointed_by (x ∙ ap (λ (v : ℕ). held (τ v)) e)
        ∙ sym (by_place (stands_at target t n 12 place h d).node)

-- what an operand gives by itself
pub settles-as : {u v : Holding ℕ → Evaluated} (j : Option Evaluated) → ((τ : Holding ℕ) → u τ ≡ v τ) → Settles j u
    → Settles j v
settles-as (Some e) h s = λ τ. s τ ∙ h τ
settles-as None h s = tt

pub settled-as : (v : Holding ℕ → Evaluated) (j : Option Evaluated) {e : Evaluated} → Settles j v → j ≡ Some e
    → (τ : Holding ℕ) → e ≡ v τ
settled-as v j s h = subst (λ (j : Option Evaluated). Settles j v) h s
