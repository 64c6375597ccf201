-- In an accepted table no record's node is junk: each has its kind's sort, and the last is a statement.
use Prim.Native.Nat.{ℕ, zero, suc, ◌≤◌, ◌<◌}
use native.Mathlib.Omega.{arith}
use mathlib.Core.Bool.{true, false, not}
use mathlib.Core.List.{List}
use mathlib.Core.Path.{◌≡◌, refl, sym, ap, ◌∙◌}
use borrow.Author.Tests.{ltb-true, eqb-true, eq-eqb, not-false}
use lib.Dec.{ltb, eqb}
use Rattle.std.specs.Prelude.{Ok}
use Rattle.rules.specs.Records.{record_count, kind_of, child_a, child_b, child_c, record_at}
use Rattle.rules.specs.Kinds.{Language, Sort, sort_number, statement, Field, unnamed, child, number, field_of}
use Rattle.rules.specs.Kinds.{form_of}
use Rattle.rules.specs.Checker.{field_fits, form_sort, sort_of, child_fits, record_fault, shape_fault}
use Rattle.rules.specs.Nodes.{sort_of_node, node_fits, node_in, nodes, node_at}
use Rattle.rules.proofs.Acceptance.Acceptance.{Accepted}
use Rattle.rules.proofs.Lists.BooleanLaws.{and_split, both_true, three-pass}
use Rattle.rules.proofs.Acceptance.NodeLaws.{node-earlier}
use Rattle.rules.proofs.Acceptance.FormLaws.{fields_split, Faultless, faultless, node-built}
use Rattle.rules.proofs.Acceptance.Standing.{form-sort, Stands, stands}

abbrev pub Sorted : (l : Language) → List ℕ → ℕ → Type 0
Sorted l t n = sort_of_node l (node_at l t n) ≡ sort_of l (kind_of t n)

module _ (l : Language) (t : List ℕ) (rules : (n : ℕ) → 1 ≤ n → n ≤ record_count t → record_fault l t n ≡ Ok tt) where
  child_fits_lem : (n : ℕ) → n ≤ record_count t → ((x : ℕ) → x < n → 1 ≤ x → x ≤ record_count t → Sorted l t x)
      → (f : Field) (x : ℕ) → field_fits f x ≡ true → child_fits l t n f x ≡ true
      → node_fits l f (node_in l (nodes l t n) x) ≡ true
  child_fits_lem n q ih unnamed x h c = refl
  child_fits_lem n q ih (child s) x h c =
      let r = and_split (ltb x n) (eqb (sort_of l (kind_of t x)) (sort_number s)) c in
      let d = ltb-true x n r.0 in
      eq-eqb (sort_of_node l (node_in l (nodes l t n) x)) (sort_number s)
      (ap (sort_of_node l) (node-earlier l t n x d)
      ∙ ih x d (ltb-true 0 x h) (omega arith)
      ∙ eqb-true (sort_of l (kind_of t x)) (sort_number s) r.1)
  child_fits_lem n q ih (number p) x h c = refl

  sorted-step : (n : ℕ) → 1 ≤ n → n ≤ record_count t → ((x : ℕ) → x < n → 1 ≤ x → x ≤ record_count t → Sorted l t x)
      → Sorted l t n
  sorted-step n p q ih =
      let e = rules n p q in
      let w = faultless l t n e in
      let f = w.form in
      let v = fields_split f (record_at t n) w.fields in
      let k = three-pass (child_fits l t n (field_of f 0) (child_a t n)) (child_fits l t n (field_of f 1) (child_b t n))
      (child_fits l t n (field_of f 2) (child_c t n)) w.children in
      let x = child_fits_lem n q ih (field_of f 0) (child_a t n) v.1 k.0 in
      let y = child_fits_lem n q ih (field_of f 1) (child_b t n) v.2 k.1 in
      let z = child_fits_lem n q ih (field_of f 2) (child_c t n) v.3 k.2 in
      let g = both_true _ _ (both_true _ _ x y) z in
      form-sort l t n f w.found (node-built l t n f p q e w.found w.fields g) ∙ sym (ap form_sort w.found)

  sorted-below : (m n : ℕ) → n < m → 1 ≤ n → n ≤ record_count t → Sorted l t n
  sorted-below zero n h p q = absurd (omega arith)
  sorted-below (suc m) n h p q = sorted-step n p q (λ x d a b. sorted-below m x (omega arith) a b)

-- no node of an accepted table is junk
pub accepted-sorted : (l : Language) (t : List ℕ) → Accepted l t → (n : ℕ) → 1 ≤ n → n ≤ record_count t → Sorted l t n
accepted-sorted l t a n p q = sorted-below l t a.record-rules (suc n) n (omega arith) p q

-- each record of it keeps its form
pub accepted-form : (l : Language) (t : List ℕ) → Accepted l t → (n : ℕ) → 1 ≤ n → n ≤ record_count t
    → Faultless l t n (form_of l (kind_of t n))
accepted-form l t a n p q = faultless l t n (a.record-rules n p q)

pub accepted-stands : (l : Language) (t : List ℕ) → Accepted l t → (n : ℕ) → 1 ≤ n → n ≤ record_count t
    → (s : Sort) → sort_of l (kind_of t n) ≡ sort_number s → Stands l t n s
accepted-stands l t a n p q s e = stands l t n s (accepted-sorted l t a n p q ∙ e)

-- the last node is a statement
pub accepted-last : (l : Language) (t : List ℕ) → Accepted l t
    → sort_of_node l (node_at l t (record_count t)) ≡ sort_number statement
unfolding shape_fault
accepted-last l t a =
    let N = record_count t in
    let h : not (eqb (sort_of l (kind_of t N)) (sort_number statement)) ≡ false =
    rw (eq-eqb N N refl, shape_fault) at (a.shape N a.not-empty (omega arith)) in
    accepted-sorted l t a N a.not-empty (omega arith) ∙ eqb-true _ _ (not-false _ h)

-- each record stands, with some sort
pub accepted-record : (l : Language) (t : List ℕ) → Accepted l t → (n : ℕ) → 1 ≤ n → n ≤ record_count t
    → (s : Sort) × Stands l t n s
accepted-record l t a n p q =
    let w = accepted-form l t a n p q in
    (w.form.sort, accepted-stands l t a n p q w.form.sort (ap form_sort w.found))
