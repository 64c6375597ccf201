-- What a statement runs first and then, by its kind.
use Prim.Native.Nat.{ℕ, ◌≤◌, ◌<◌}
use native.Mathlib.Decide.{ℕ_discrete}
use native.Mathlib.Omega.{arith}
use mathlib.Core.Bool.{Bool, cond, false≢true}
use mathlib.Core.List.{List}
use mathlib.Core.Logic.{◌≢◌}
use mathlib.Core.Path.{◌≡◌, sym, ap, ◌∙◌, subst}
use borrow.Author.Tests.{eq-eqb, ne_eqb}
use Rattle.rules.specs.Records.{kind_of, child_a, child_b}
use Rattle.run_children.specs.Children.{first_of, rest_of}
use Rattle.std.specs.Prelude.{Option, Some, None, is_some, unwrap_or}

some-same : {x y : ℕ} → ◌≡◌ {A = Option ℕ} (Some x) (Some y) → x ≡ y
some-same {x} e = ap (λ s. unwrap_or s x) e

some-none : {x : ℕ} → ◌≡◌ {A = Option ℕ} (Some x) None → ⊥
some-none e = false≢true (sym (ap is_some e))

module _ (t : List ℕ) (n : ℕ) where
  pub first-is : kind_of t n ≡ 44 → first_of t n ≡ child_a t n
  first-is q = ap (λ (b : Bool). cond b (child_a t n) n) (eq-eqb (kind_of t n) 44 q)

  pub first-self : kind_of t n ≢ 44 → first_of t n ≡ n
  first-self d = ap (λ (b : Bool). cond b (child_a t n) n) (ne_eqb (kind_of t n) 44 d)

  pub rest-is : kind_of t n ≡ 44 → rest_of t n ≡ Some (child_b t n)
  rest-is q = ap (λ (b : Bool). cond b (Some (child_b t n)) None) (eq-eqb (kind_of t n) 44 q)

  pub rest-nothing : kind_of t n ≢ 44 → rest_of t n ≡ None
  rest-nothing d = ap (λ (b : Bool). cond b (Some (child_b t n)) None) (ne_eqb (kind_of t n) 44 d)

  -- what holds of A of a sequence, and of any other statement, holds of what runs first
  pub first_by : (P : ℕ → Type 0) → (kind_of t n ≡ 44 → P (child_a t n)) → (kind_of t n ≢ 44 → P n) → P (first_of t n)
  first_by P a b = by (ℕ_discrete (kind_of t n) 44)
    where
      by : Dec (kind_of t n ≡ 44) → P (first_of t n)
      by (yes q) = subst P (sym (first-is q)) (a q)
      by (no d) = subst P (sym (first-self d)) (b d)

  -- a sequence alone runs a sequence first, or anything then
  pub sequence-first : kind_of t (first_of t n) ≡ 44 → kind_of t n ≡ 44
  sequence-first = first_by (λ k. kind_of t k ≡ 44 → kind_of t n ≡ 44) (λ q x. q) (λ d x. x)

  -- what runs then is B of a sequence; what nothing follows is run first, whole
  pub rest-some : {r : ℕ} → rest_of t n ≡ Some r → (kind_of t n ≡ 44) × (r ≡ child_b t n)
  rest-some {r} e = by (ℕ_discrete (kind_of t n) 44)
    where
      by : Dec (kind_of t n ≡ 44) → (kind_of t n ≡ 44) × (r ≡ child_b t n)
      by (yes q) = (q, some-same (sym e ∙ rest-is q))
      by (no d) = absurd (some-none (sym e ∙ rest-nothing d))

  pub first_alone : rest_of t n ≡ None → first_of t n ≡ n
  first_alone e = first-self (λ q. some-none (sym (rest-is q) ∙ e))

  -- where a sequence's parts have smaller numbers
  module _ (a : kind_of t n ≡ 44 → child_a t n < n) where
    pub first-within : first_of t n ≤ n
    first-within = first_by (λ k. k ≤ n) (λ q. omega (arith, a q)) (λ d. omega arith)

    pub first-smaller : kind_of t n ≡ 44 → first_of t n < n
    first-smaller q = omega (arith, a q, first-is q)
