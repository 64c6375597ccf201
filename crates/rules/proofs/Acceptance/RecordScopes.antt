-- The scope and the level of a record of an accepted table, as trees have them.
use Prim.Native.Nat.{ℕ}
use mathlib.Core.Bool.{Bool, true, false, cond, ◌&&◌, ◌||◌}
use mathlib.Core.List.{List}
use mathlib.Core.Path.{◌≡◌, refl, sym, ◌∙◌, fun_ext}
use lib.Dec.{eqb}
use Rattle.rules.specs.Records.{fields_of, record_count, kind_of, mark_of, record_at}
use Rattle.rules.specs.Kinds.{Language, source, target}
use Rattle.rules.specs.Checker.{in_scope, level_below, position_in, level_of}
use Rattle.rules.proofs.Acceptance.Sound.{Scope, start_scope, adding}
use Rattle.rules.proofs.Acceptance.Acceptance.{Accepted, passed-of}
use Rattle.rules.proofs.Acceptance.ParentLaws.{IsParent}
use Rattle.rules.proofs.Acceptance.ScopeLaws as scopes

-- the variables in scope at record n, and its level, which a target record has not
abbrev pub scope_at : Language → List ℕ → ℕ → Scope
scope_at l t n x = in_scope l t (record_count t) x n

abbrev pub level_at : Language → List ℕ → ℕ → ℕ
level_at source t n = level_of t (record_count t) n
level_at target t n = 0

-- the scope below a record of kind k with mark v
abbrev pub scope_below : ℕ → ℕ → Scope → Scope
scope_below k v ρ = cond (eqb k 47) (adding ρ v) ρ

below-is : (k v x : ℕ) (ρ : Scope) → ((eqb k 47 && eqb v x) || ρ x) ≡ scope_below k v ρ x
below-is k v x ρ = go (eqb k 47)
  where
    go : (c : Bool) → ((c && eqb v x) || ρ x) ≡ cond {A = Scope} c (adding ρ v) ρ x
    go true = sym (scopes.adding-is ρ v x)
    go false = refl

module _ (l : Language) (t : List ℕ) (a : Accepted l t) where
  pub scope-child : (m n : ℕ) → IsParent l t m n
      → scope_at l t n ≡ scope_below (kind_of t m) (mark_of t m) (scope_at l t m)
  scope-child m n h =
      fun_ext λ x.
      scopes.scope-child l t (passed-of l t a) m n x h ∙ below-is (kind_of t m) (mark_of t m) x (scope_at l t m)

  pub scope-last : scope_at l t (record_count t) ≡ start_scope
  scope-last = fun_ext λ x. scopes.scope-last l t (passed-of l t a) x ∙ scopes.start-scope x

pub level-child : (t : List ℕ) → Accepted source t → (m n : ℕ) → IsParent source t m n
    → level_at source t n ≡ level_below (kind_of t m) (position_in (fields_of (record_at t m)) n) (level_at source t m)
level-child t a m n h = scopes.level-child t (passed-of source t a) m n h
