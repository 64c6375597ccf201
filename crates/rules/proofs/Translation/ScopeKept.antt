-- In a table that holds a tree that keeps the rules, variables are in scope where the tree has them in scope.
use Prim.Native.Nat.{ℕ, suc, ◌+◌, ◌≤◌, ◌<◌}
use native.Mathlib.Omega.{arith}
use mathlib.Core.Path.{◌≡◌, refl, sym, ap, ◌∙◌}
use mathlib.Core.Bool.{Bool, true, false, not, ◌&&◌, ◌||◌}
use mathlib.Core.List.{List}
use lib.Dec.{eqb}
use lib.IntN.{ℤ}
use Rattle.rules.specs.Records.{Record, record_count, kind_of, mark_of, record_at}
use Rattle.rules.specs.Kinds.{Language}
use Rattle.rules.specs.Checker.{in_scope, scope_fault}
use Rattle.rules.specs.Emission.{RecordTree, node, tree_size, root_number}
use Rattle.rules.proofs.Acceptance.Sound.{Scope, start_scope}
use Rattle.rules.proofs.Translation.EmissionLaws.{Holds, root-size, Step, everywhere}
use Rattle.rules.proofs.Translation.FittingTrees.{OwnScope, scope_below, Fitting}
use Rattle.rules.proofs.Acceptance.ParentLaws.{Passed, IsParent, same, same-yes}
use Rattle.rules.proofs.Acceptance.ScopeLaws.{scope-child, scope-last, start-scope}
use Rattle.rules.proofs.Translation.ShapeLaws.{times-own}

-- 7 at a record, by what its kind is, and by whether its variable is in scope
abbrev verdict : Bool → Bool → Bool → Bool
verdict p q b = elim p [ true ↦ not b | false ↦ elim q [ true ↦ b | false ↦ false ] ]

kept : (p q b : Bool) → (elim p as (λ z. Type 0) [
  | true ↦ b ≡ true
  | false ↦
      elim q as (λ z. Type 0) [ true ↦ b ≡ false | false ↦ Unit {0} ]
]) → verdict p q b ≡ false
kept true q b h = ap not h
kept false true b h = h
kept false false b h = refl

no-scope-fault : (l : Language) (t : List ℕ) (j k m : ℕ) (ρ : Scope) → kind_of t j ≡ k → mark_of t j ≡ m
    → ((x : ℕ) → in_scope l t (record_count t) x j ≡ ρ x) → OwnScope k m ρ → scope_fault l t j ≡ false
unfolding scope_fault
no-scope-fault l t j k m ρ ek em f h =
    (λ i. verdict (eqb (ek i) 10) (eqb (ek i) 47) ((ap (λ (x : ℕ). in_scope l t (record_count t) x j) em ∙ f m) i))
    ∙ kept (eqb k 10) (eqb k 47) (ρ m) h

-- a tree's records in a table, with what is in scope at its root
pub record Scoped (l : Language) (t : List ℕ) (w : RecordTree) (n : ℕ) : Type 0 where
  pub records : Holds (record_at t) w n
  pub in_scope_at_root : Scope
  pub fitting : Fitting l w in_scope_at_root
  pub at-root : 0 < root_number w n → (x : ℕ) → in_scope l t (record_count t) x (root_number w n) ≡ in_scope_at_root x
  pub inside : n + tree_size w ≤ record_count t

module _ (l : Language) (t : List ℕ) (keeps : Passed l t) where
  below-scope : (j k m c : ℕ) (ρ : Scope) → kind_of t j ≡ k → mark_of t j ≡ m
      → ((x : ℕ) → in_scope l t (record_count t) x j ≡ ρ x) → IsParent l t j c
      → (x : ℕ) → in_scope l t (record_count t) x c ≡ scope_below k m ρ x
  below-scope j k m c ρ ek em f h x =
      scope-child l t keeps j c x h ∙ (λ i. (eqb (ek i) 47 && eqb (em i) x) || f x i)

  step : (k m : ℕ) (z : ℤ) (x : ℕ) (a b c : RecordTree) (n : ℕ) → Scoped l t (node k m z x a b c) n
      → Step (λ j. scope_fault l t j ≡ false) (Scoped l t) a b c n
  step k m z x a b c n h =
      let j : ℕ = n + suc (tree_size a + tree_size b + tree_size c) in
      let nb : ℕ = n + tree_size a in
      let nc : ℕ = n + tree_size a + tree_size b in
      let ρ : Scope = h.in_scope_at_root in
      let ek : kind_of t j ≡ k = ap (λ (r : Record). r.kind) h.records.3 in
      let em : mark_of t j ≡ m = ap (λ (r : Record). r.mark) h.records.3 in
      let here : (x : ℕ) → in_scope l t (record_count t) x j ≡ ρ x = h.at-root (omega arith) in
      let above : (d : ℕ) → 0 < d → 0 < same (root_number a n) d + same (root_number b nb) d + same (root_number c nc) d
      → (x : ℕ) → in_scope l t (record_count t) x d ≡ scope_below k m ρ x =
      λ d p q. below-scope j k m d ρ ek em here (record {
        in_table = omega (arith, h.inside);
        has-child = omega (arith, times-own l t k m z x a b c n d ρ p h.fitting.0 h.records);
      }) in
      record {
        own = no-scope-fault l t j k m ρ ek em here h.fitting.0.scope;
        below-a = record {
          records = h.records.0;
          in_scope_at_root = scope_below k m ρ;
          fitting = h.fitting.1;
          at-root = λ p. above (root_number a n) p (omega (arith, same-yes (root_number a n)));
          inside = omega (arith, h.inside);
        };
        below-b = record {
          records = h.records.1;
          in_scope_at_root = scope_below k m ρ;
          fitting = h.fitting.2;
          at-root = λ p. above (root_number b nb) p (omega (arith, same-yes (root_number b nb)));
          inside = omega (arith, h.inside);
        };
        below-c = record {
          records = h.records.2;
          in_scope_at_root = scope_below k m ρ;
          fitting = h.fitting.3;
          at-root = λ p. above (root_number c nc) p (omega (arith, same-yes (root_number c nc)));
          inside = omega (arith, h.inside);
        };
      }

  pub scopes-kept : (w : RecordTree) (n : ℕ) → Scoped l t w n → (j : ℕ) → n < j → j ≤ n + tree_size w
      → scope_fault l t j ≡ false
  scopes-kept = everywhere (λ j. scope_fault l t j ≡ false) (Scoped l t) step

-- a whole table
pub scope_kept : (l : Language) (t : List ℕ) (w : RecordTree) → Passed l t → record_count t ≡ tree_size w
    → Holds (record_at t) w 0 → Fitting l w start_scope → (j : ℕ) → 1 ≤ j → j ≤ record_count t → scope_fault l t j ≡ false
scope_kept l t w keeps count holds fitting j p q =
    scopes-kept l t keeps w 0 (record {
      records = holds;
      in_scope_at_root = start_scope;
      fitting = fitting;
      at-root = λ r x.
          ap (in_scope l t (record_count t) x) (root-size w ∙ sym count) ∙ scope-last l t keeps x ∙ start-scope x;
      inside = omega arith;
    }) j p (omega arith)
