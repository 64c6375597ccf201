-- Trees of records that keep the rules of a language, and that their records keep 3, 4 and 5.
use Prim.Native.Nat.{ℕ, suc, ◌+◌, ◌≤◌, ◌<◌}
use native.Mathlib.Omega.{arith}
use mathlib.Core.Path.{◌≡◌, refl, ap, ◌∙◌, subst}
use mathlib.Core.Bool.{true, false, ◌&&◌, ◌||◌}
use mathlib.Core.List.{List}
use mathlib.Core.Option.{some}
use lib.Dec.{eqb}
use lib.IntN.{ℤ}
use borrow.Author.Tests.{lt-ltb, eq-eqb}
use Rattle.std.specs.Prelude.{Ok}
use Rattle.rules.specs.Records.{Record, kind_of, record_at}
use Rattle.rules.specs.Kinds.{Language, source, target, Sort, expression, place, term, predicate, statement}
use Rattle.rules.specs.Kinds.{sort_number, Field, unnamed, child, number, Form, field_of, form_of, look_up}
use Rattle.rules.specs.Checker.{field_fits, literal_fits, fields_fit, sort_of, child_fits, children_fit, record_fault}
use Rattle.rules.specs.Numbers.{in_range}
use Rattle.rules.specs.Emission.{RecordTree, node, tree_size, root_number, field_c}
use Rattle.rules.specs.Emission as tree
use Rattle.rules.proofs.Lists.BooleanLaws.{both_true}
use Rattle.rules.proofs.Acceptance.Sound.{Scope}
use Rattle.rules.proofs.Translation.EmissionLaws.{Holds, own_record, field-root, Step, everywhere}

abbrev pub root_kind : RecordTree → ℕ
root_kind tree.none = 0
root_kind (node k m z x a b c) = k

-- what stands in a field: no tree and 0, a tree of the sort, or no tree and a number that passes the test
abbrev pub FieldTree : Language → Field → RecordTree → ℕ → Type 0
FieldTree l unnamed w x = (w ≡ tree.none) × (x ≡ 0)
FieldTree l (child s) w x = sort_of l (root_kind w) ≡ sort_number s
FieldTree l (number p) w x = (w ≡ tree.none) × (p x ≡ true)

-- the scope that a record asks for, and the scope below it
abbrev pub OwnScope : ℕ → ℕ → Scope → Type 0
OwnScope k m ρ = elim (eqb k 10) as (λ q. Type 0) [
  | true ↦ ρ m ≡ true
  | false ↦
      elim (eqb k 47) as (λ q. Type 0) [ true ↦ ρ m ≡ false | false ↦ Unit {0} ]
]

abbrev pub scope_below : ℕ → ℕ → Scope → Scope
scope_below k m ρ x = (eqb k 47 && eqb m x) || ρ x

pub record Fits (l : Language) (k m : ℕ) (z : ℤ) (x : ℕ) (a b c : RecordTree) (ρ : Scope) : Type 0 where
  pub form : Form
  pub is-form : form_of l k ≡ some form
  pub small : (k < 256) × (m < 256) × (x < 65536)
  pub in-range : in_range z ≡ true
  pub mark : field_fits form.mark m ≡ true
  pub field-a : FieldTree l (field_of form 0) a 0
  pub field-b : FieldTree l (field_of form 1) b 0
  pub field-c : FieldTree l (field_of form 2) c x
  pub literal : literal_fits form.literal z ≡ true
  pub scope : OwnScope k m ρ

abbrev pub Fitting : Language → RecordTree → Scope → Type 0
Fitting l tree.none ρ = Unit {0}
Fitting l (node k m z x a b c) ρ =
    Fits l k m z x a b c ρ × Fitting l a (scope_below k m ρ) × Fitting l b (scope_below k m ρ)
    × Fitting l c (scope_below k m ρ)

-- no record is of kind 0
pub no-sort : (l : Language) (s : Sort) → sort_of l 0 ≡ sort_number s → ⊥
unfolding form_of look_up
no-sort source expression h = omega arith
no-sort source place h = omega arith
no-sort source term h = omega arith
no-sort source predicate h = omega arith
no-sort source statement h = omega arith
no-sort target expression h = omega arith
no-sort target place h = omega arith
no-sort target term h = omega arith
no-sort target predicate h = omega arith
no-sort target statement h = omega arith

-- the root's record is of the tree's kind
pub root-kind : (t : List ℕ) (w : RecordTree) (n : ℕ) → Holds (record_at t) w n → 0 < root_number w n
    → kind_of t (root_number w n) ≡ root_kind w
root-kind t tree.none n h p = absurd (omega arith)
root-kind t (node k m z x a b c) n h p = ap (λ (r : Record). r.kind) h.3

pub field_fits_lem : (l : Language) (F : Field) (w : RecordTree) (x n : ℕ) → FieldTree l F w x
    → field_fits F (field_c w x n) ≡ true
field_fits_lem l unnamed w x n h = rw h.0 (eq-eqb x 0 h.1)
field_fits_lem l (child s) tree.none x n h = absurd (no-sort l s h)
field_fits_lem l (child s) (node k m z y a b c) x n h = lt-ltb 0 (root_number (node k m z y a b c) n) (omega arith)
field_fits_lem l (number p) w x n h = rw h.0 h.1

pub child_fits_lem : (l : Language) (t : List ℕ) (F : Field) (w : RecordTree) (x n j : ℕ) → FieldTree l F w x
    → Holds (record_at t) w n → n + tree_size w < j → child_fits l t j F (field_c w x n) ≡ true
child_fits_lem l t unnamed w x n j h q p = refl
child_fits_lem l t (child s) tree.none x n j h q p = absurd (no-sort l s h)
child_fits_lem l t (child s) (node k m z y a b c) x n j h q p =
    both_true _ _ (lt-ltb _ j p)
    (eq-eqb _ (sort_number s) (ap (sort_of l) (root-kind t (node k m z y a b c) n q (omega arith)) ∙ h))
child_fits_lem l t (number p) w x n j h q i = refl

-- a record that is some record whose fields fit has no fault
fault-free : (l : Language) (t : List ℕ) (j : ℕ) (f : Form) → form_of l (kind_of t j) ≡ some f
    → fields_fit f (record_at t j) ≡ true → children_fit l t j f (record_at t j) ≡ true → record_fault l t j ≡ Ok tt
unfolding record_fault
fault-free l t j f p q s = rw (p, q, s)

pub no-fault : (l : Language) (t : List ℕ) (j : ℕ) (f : Form) (r : Record) → record_at t j ≡ r
    → form_of l r.kind ≡ some f → fields_fit f r ≡ true → children_fit l t j f r ≡ true → record_fault l t j ≡ Ok tt
no-fault l t j f r e =
    subst (λ (r : Record). form_of l r.kind ≡ some f → fields_fit f r ≡ true → children_fit l t j f r ≡ true
    → record_fault l t j ≡ Ok tt) e (fault-free l t j f)

-- each record of a tree that keeps the rules keeps 3, 4 and 5
pub record Held (l : Language) (t : List ℕ) (w : RecordTree) (n : ℕ) : Type 0 where
  pub records : Holds (record_at t) w n
  pub in_scope_at_root : Scope
  pub fitting : Fitting l w in_scope_at_root

own-fault : (l : Language) (t : List ℕ) (k m : ℕ) (z : ℤ) (x : ℕ) (a b c : RecordTree) (n : ℕ) (ρ : Scope)
    → Fits l k m z x a b c ρ → Holds (record_at t) (node k m z x a b c) n
    → record_fault l t (n + suc (tree_size a + tree_size b + tree_size c)) ≡ Ok tt
own-fault l t k m z x a b c n ρ h q =
    let j : ℕ = n + suc (tree_size a + tree_size b + tree_size c) in
    let f : Form = h.form in
    let nb : ℕ = n + tree_size a in
    let nc : ℕ = n + tree_size a + tree_size b in
    let fa : field_fits (field_of f 0) (root_number a n) ≡ true =
    rw (field-root a n) (field_fits_lem l (field_of f 0) a 0 n h.field-a) in
    let fb : field_fits (field_of f 1) (root_number b nb) ≡ true =
    rw (field-root b nb) (field_fits_lem l (field_of f 1) b 0 nb h.field-b) in
    let fc : field_fits (field_of f 2) (field_c c x nc) ≡ true = field_fits_lem l (field_of f 2) c x nc h.field-c in
    let ga : child_fits l t j (field_of f 0) (root_number a n) ≡ true =
    rw (field-root a n) (child_fits_lem l t (field_of f 0) a 0 n j h.field-a q.0 (omega arith)) in
    let gb : child_fits l t j (field_of f 1) (root_number b nb) ≡ true =
    rw (field-root b nb) (child_fits_lem l t (field_of f 1) b 0 nb j h.field-b q.1 (omega arith)) in
    let gc : child_fits l t j (field_of f 2) (field_c c x nc) ≡ true =
    child_fits_lem l t (field_of f 2) c x nc j h.field-c q.2 (omega arith) in
    no-fault l t j f (own_record k m z x a b c n) q.3 h.is-form
    (both_true _ _ (both_true _ _ (both_true _ _ (both_true _ _ h.mark fa) fb) fc) h.literal)
    (both_true _ _ (both_true _ _ ga gb) gc)

pub records-fit : (l : Language) (t : List ℕ) (w : RecordTree) (n : ℕ) → Held l t w n
    → (j : ℕ) → n < j → j ≤ n + tree_size w → record_fault l t j ≡ Ok tt
records-fit l t = everywhere (λ j. record_fault l t j ≡ Ok tt) (Held l t) step
  where
    step : (k m : ℕ) (z : ℤ) (x : ℕ) (a b c : RecordTree) (n : ℕ) → Held l t (node k m z x a b c) n
        → Step (λ j. record_fault l t j ≡ Ok tt) (Held l t) a b c n
    step k m z x a b c n h = record {
      own = own-fault l t k m z x a b c n h.in_scope_at_root h.fitting.0 h.records;
      below-a = record { records = h.records.0; in_scope_at_root = scope_below k m h.in_scope_at_root; fitting = h.fitting.1 };
      below-b = record { records = h.records.1; in_scope_at_root = scope_below k m h.in_scope_at_root; fitting = h.fitting.2 };
      below-c = record { records = h.records.2; in_scope_at_root = scope_below k m h.in_scope_at_root; fitting = h.fitting.3 };
    }
