-- What a record has from those above it, in a table that keeps 3 to 6: by parents it is what it is by descent.
use Prim.Native.Nat.{ℕ, zero, suc, ◌+◌, ◌*◌, ◌≤◌}
use native.Mathlib.Omega.{arith}
use mathlib.Core.Path.{◌≡◌, refl, sym, ap, ◌∙◌}
use mathlib.Core.Bool.{Bool, true, false, cond, ◌||◌}
use mathlib.Core.List.{List}
use lib.Dec.{eqb, eqb-suc-zero}
use Rattle.std.specs.Prelude.{None, Some}
use Rattle.rules.specs.Types.{Search}
use Rattle.rules.specs.Records.{fields_of, record_count, kind_of, record_at}
use Rattle.rules.specs.Kinds.{Language, source}
use Rattle.rules.specs.Checker.{parent_of, is_let_of, in_scope, level_below, position_in, level_of}
use Rattle.rules.specs.Origins.{copies_in, copies_of}
use Rattle.rules.proofs.Lists.BooleanLaws.{eqb_swap}
use Rattle.rules.proofs.Acceptance.Sound.{Scope, start_scope, adding}
use Rattle.rules.proofs.Acceptance.ParentLaws.{Passed, IsParent, parent_is, parent_above, parent-of-child}
use Rattle.rules.proofs.Acceptance.ParentLaws.{last-parent}

-- what record n has, d records up at most: top where none is above, and up n m of what its parent m has
abbrev pub from_parent : {A : Type 0} → A → (ℕ → A) → Search → A
from_parent top up None = top
from_parent top up (Some m) = up m

unfoldable pub climb : {A : Type 0} → Language → List ℕ → A → (ℕ → ℕ → A → A) → ℕ → ℕ → A
climb l t top up zero n = top
climb l t top up (suc d) n = from_parent top (λ m. up n m (climb l t top up d m)) (parent_of l t n)

module _ {A : Type 0} (l : Language) (t : List ℕ) (top : A) (up : ℕ → ℕ → A → A) where
  climb-top : (d n : ℕ) → parent_of l t n ≡ None → climb l t top up d n ≡ top
  unfolding climb
  climb-top zero n e = refl
  climb-top (suc d) n e = ap (from_parent top (λ m. up n m (climb l t top up d m))) e

  climb-up : (d n m : ℕ) → parent_of l t n ≡ Some m → climb l t top up (suc d) n ≡ up n m (climb l t top up d m)
  unfolding climb
  climb-up d n m e = ap (from_parent top (λ m. up n m (climb l t top up d m))) e

module _ {A : Type 0} (l : Language) (t : List ℕ) (top : A) (up : ℕ → ℕ → A → A) (keeps : Passed l t) where
  -- as many as there are records after it are enough
  climb-enough : (d n : ℕ) → record_count t ≤ n + d → climb l t top up d n ≡ climb l t top up (suc d) n
  climb-enough zero n h =
      let e : parent_of l t n ≡ None = last-parent l t keeps n (omega arith) in
      climb-top l t top up 0 n e ∙ sym (climb-top l t top up 1 n e)
  climb-enough (suc d) n h = go (parent_of l t n) refl (λ m. climb-enough d m)
    where
      go : (s : Search) → parent_of l t n ≡ s
          → ((m : ℕ) → record_count t ≤ m + d → climb l t top up d m ≡ climb l t top up (suc d) m)
          → climb l t top up (suc d) n ≡ climb l t top up (suc (suc d)) n
      go None e f = climb-top l t top up (suc d) n e ∙ sym (climb-top l t top up (suc (suc d)) n e)
      go (Some m) e f =
          climb-up l t top up d n m e
          ∙ ap (up n m) (f m (omega (arith, parent_above l t keeps m n (parent_is l t m n e))))
          ∙ sym (climb-up l t top up (suc d) n m e)

  pub climb-child : (m c : ℕ) → IsParent l t m c
      → climb l t top up (record_count t) c ≡ up c m (climb l t top up (record_count t) m)
  climb-child m c h = go (record_count t) refl
    where
      go : (d : ℕ) → record_count t ≡ d → climb l t top up d c ≡ up c m (climb l t top up d m)
      go zero e = absurd (omega (arith, h.in_table))
      go (suc d) e =
          climb-up l t top up d c m (parent-of-child l t keeps m c h)
          ∙ ap (up c m) (climb-enough d m (omega (arith, h.in_table)))

  pub climb-last : climb l t top up (record_count t) (record_count t) ≡ top
  climb-last =
      climb-top l t top up (record_count t) (record_count t) (last-parent l t keeps (record_count t) (omega arith))

-- ---- scope
abbrev scope_up : List ℕ → ℕ → ℕ → ℕ → Bool → Bool
scope_up t x n m b = eqb x 0 || (is_let_of t m x || b)

let-or-above : (p f g : Bool) → f ≡ g → elim p as (λ q. Bool) [ true ↦ true | false ↦ f ] ≡ (p || g)
let-or-above true f g e = refl
let-or-above false f g e = e

one_up : (b : Bool) (s : Search) (p f g : ℕ → Bool) → ((m : ℕ) → f m ≡ g m)
    → elim b as (λ q. Bool) [
      | true ↦ true
      | false ↦
          elim s as (λ q. Bool) [
            | None ↦ false
            | Some m ↦
                elim (p m) as (λ q. Bool) [ true ↦ true | false ↦ f m ]
          ]
    ]
    ≡ from_parent b (λ m. b || (p m || g m)) s
one_up true None p f g h = refl
one_up true (Some m) p f g h = refl
one_up false None p f g h = refl
one_up false (Some m) p f g h = let-or-above (p m) (f m) (g m) (h m)

scope-climb : (l : Language) (t : List ℕ) (x d n : ℕ) → in_scope l t d x n ≡ climb l t (eqb x 0) (scope_up t x) d n
unfolding in_scope climb
scope-climb l t x zero n = refl
scope-climb l t x (suc d) n =
    one_up (eqb x 0) (parent_of l t n) (λ m. is_let_of t m x) (λ m. in_scope l t d x m)
    (λ m. climb l t (eqb x 0) (scope_up t x) d m) (λ m. scope-climb l t x d m)

-- variable 0 is in scope throughout
pub zero-in-scope : (l : Language) (t : List ℕ) (x d n : ℕ) → eqb x 0 ≡ true → in_scope l t d x n ≡ true
unfolding in_scope
zero-in-scope l t x zero n e = e
zero-in-scope l t x (suc d) n e = rw (e, in_scope)

or-true : (p q r : Bool) → (p ≡ true → r ≡ true) → (p || (q || r)) ≡ (q || r)
or-true false q r h = refl
or-true true true r h = refl
or-true true false r h = sym (h refl)

module _ (l : Language) (t : List ℕ) (keeps : Passed l t) where
  -- in scope at a child: what its parent is a let of, and what is in scope at its parent
  pub scope-child : (m c x : ℕ) → IsParent l t m c
      → in_scope l t (record_count t) x c ≡ (is_let_of t m x || in_scope l t (record_count t) x m)
  scope-child m c x h =
      scope-climb l t x (record_count t) c
      ∙ climb-child l t (eqb x 0) (scope_up t x) keeps m c h
      ∙ ap (λ b. eqb x 0 || (is_let_of t m x || b)) (sym (scope-climb l t x (record_count t) m))
      ∙ or-true (eqb x 0) (is_let_of t m x) (in_scope l t (record_count t) x m) (zero-in-scope l t x (record_count t) m)

  -- at the last record: variable 0 alone
  pub scope-last : (x : ℕ) → in_scope l t (record_count t) x (record_count t) ≡ eqb x 0
  scope-last x = scope-climb l t x (record_count t) (record_count t) ∙ climb-last l t (eqb x 0) (scope_up t x) keeps

pub start-scope : (x : ℕ) → eqb x 0 ≡ start_scope x
start-scope zero = refl
start-scope (suc x) = eqb-suc-zero x

-- one more variable in scope
pub adding-is : (ρ : Scope) (v x : ℕ) → adding ρ v x ≡ (eqb v x || ρ x)
adding-is ρ v x = go (eqb x v) ∙ ap (λ b. b || ρ x) (eqb_swap x v)
  where
    go : (b : Bool) → cond b true (ρ x) ≡ (b || ρ x)
    go true = refl
    go false = refl

-- ---- levels and copies, of a source table
by-parent : {A : Type 0} (top : A) (up : ℕ → A → A) (f g : ℕ → A) → ((m : ℕ) → f m ≡ g m) → (s : Search)
    → elim s as (λ q. A) [ Some m ↦ up m (f m) | None ↦ top ] ≡ from_parent top (λ m. up m (g m)) s
by-parent top up f g h None = refl
by-parent top up f g h (Some m) = ap (up m) (h m)

abbrev level_up : List ℕ → ℕ → ℕ → ℕ → ℕ
level_up t n m k = level_below (kind_of t m) (position_in (fields_of (record_at t m)) n) k

level-climb : (t : List ℕ) (d n : ℕ) → level_of t d n ≡ climb source t 0 (level_up t) d n
unfolding level_of climb
level-climb t zero n = refl
level-climb t (suc d) n = by-parent 0 (level_up t n) _ _ (level-climb t d) (parent_of source t n)

abbrev copies_up : List ℕ → ℕ → ℕ → ℕ → ℕ
copies_up t n m k = copies_in t m n * k

copies-climb : (t : List ℕ) (d n : ℕ) → copies_of t d n ≡ climb source t 1 (copies_up t) d n
unfolding copies_of climb
copies-climb t zero n = refl
copies-climb t (suc d) n = by-parent 1 (copies_up t n) _ _ (copies-climb t d) (parent_of source t n)

module _ (t : List ℕ) (keeps : Passed source t) where
  pub level-child : (m c : ℕ) → IsParent source t m c
      → level_of t (record_count t) c
      ≡ level_below (kind_of t m) (position_in (fields_of (record_at t m)) c) (level_of t (record_count t) m)
  level-child m c h =
      level-climb t (record_count t) c
      ∙ climb-child source t 0 (level_up t) keeps m c h
      ∙ ap (level_up t c m) (sym (level-climb t (record_count t) m))

  pub level-last : level_of t (record_count t) (record_count t) ≡ 0
  level-last = level-climb t (record_count t) (record_count t) ∙ climb-last source t 0 (level_up t) keeps

  pub copies-child : (m c : ℕ) → IsParent source t m c
      → copies_of t (record_count t) c ≡ copies_in t m c * copies_of t (record_count t) m
  copies-child m c h =
      copies-climb t (record_count t) c
      ∙ climb-child source t 1 (copies_up t) keeps m c h
      ∙ ap (copies_up t c m) (sym (copies-climb t (record_count t) m))

  pub copies-last : copies_of t (record_count t) (record_count t) ≡ 1
  copies-last = copies-climb t (record_count t) (record_count t) ∙ climb-last source t 1 (copies_up t) keeps
