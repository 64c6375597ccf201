-- The children of a record that keeps 3 to 5 are what stands in A, B and, but for an operator or a query, C.
use Prim.Native.Nat.{ℕ, zero, suc, ◌+◌, ◌<◌, ◌≤◌}
use native.Mathlib.Omega.{arith}
use native.Mathlib.Decide.{ℕ_discrete}
use mathlib.Core.Bool.{Bool, true, false, not, cond, ◌&&◌, ◌||◌}
use mathlib.Core.List.{List}
use mathlib.Core.Path.{◌≡◌, refl, sym, ap, ◌∙◌}
use borrow.Author.Tests.{ne_eqb, ltb-true}
use lib.Dec.{eqb}
use lib.ListN.{get_or}
use Rattle.std.specs.Prelude.{Ok}
use Rattle.rules.specs.Records.{kind_of, child_a, child_b, child_c, record_at}
use Rattle.rules.specs.Kinds.{Language, source, target, Field, unnamed, child, number, field_of, Form, forms}
use Rattle.rules.specs.Checker.{field_fits, record_fault, times_in, times_child_of, times_child}
use Rattle.rules.proofs.Acceptance.KindViews.{every, found-passes, found-kind}
use Rattle.rules.proofs.Acceptance.FormLaws.{fields_split, faultless}
use Rattle.rules.proofs.Acceptance.ParentLaws.{clash, three-pass, child-below, times-by-fields, times-suc}
use Rattle.checker.specs.Notes.{note_at, third_child}
use Rattle.checker.specs.Scopes.{Noted}
use Rattle.checker.proofs.NoteLaws.{count, count-self, three-length, three-noted}

-- ---- which fields are for a child or for none
abbrev for_child : Field → Bool
for_child unnamed = true
for_child (child s) = true
for_child (number p) = false

field-count : (f : Field) (x j : ℕ) → for_child f ≡ true → field_fits f x ≡ true → times_in f x j ≡ count x j
field-count unnamed x j e h = sym (ap (λ (b : Bool). cond {A = ℕ} b 0 (cond (eqb x j) 1 0)) h)
field-count (child s) x j e h =
    sym (ap (λ (b : Bool). cond {A = ℕ} b 0 (cond (eqb x j) 1 0)) (ne_eqb x 0 (λ z. omega (arith, ltb-true 0 x h))))
field-count (number p) x j e h = absurd (clash e)

field-number : (f : Field) (x j : ℕ) → not (for_child f) ≡ true → times_in f x j ≡ 0
field-number unnamed x j e = absurd (clash e)
field-number (child s) x j e = absurd (clash e)
field-number (number p) x j e = refl

abbrev third_field : Bool → Field → Bool
third_field b f = cond b (not (for_child f)) (for_child f)

abbrev child_fields : Form → Bool
child_fields f =
    for_child (field_of f 0) && for_child (field_of f 1) && third_field (eqb f.kind 63 || eqb f.kind 64) (field_of f 2)

every-form : (l : Language) → every child_fields (forms l) ≡ true
every-form source = refl
every-form target = refl

third-count : (b : Bool) (f : Field) (x j : ℕ) → third_field b f ≡ true → field_fits f x ≡ true
    → times_in f x j ≡ count (cond b 0 x) j
third-count true f x j e h = field-number f x j e
third-count false f x j e h = field-count f x j e h

-- ---- how often a record is a child of one that keeps 3 to 5
module _ (l : Language) (t : List ℕ) (n : ℕ) (keeps : record_fault l t n ≡ Ok tt) where
  abbrev pub third : ℕ
  third = third_child (kind_of t n) (child_c t n)

  pub kept-times : (j : ℕ) → times_child_of l t n j ≡ count (child_a t n) j + count (child_b t n) j + count third j
  kept-times j =
      let r = faultless l t n keeps in
      let f = r.form in
      let k = kind_of t n in
      let fits = fields_split f (record_at t n) r.fields in
      let p = three-pass (for_child (field_of f 0)) (for_child (field_of f 1))
      (third_field (eqb f.kind 63 || eqb f.kind 64) (field_of f 2))
      (found-passes child_fields l k f (every-form l) r.found) in
      let q : third_field (eqb k 63 || eqb k 64) (field_of f 2) ≡ true =
      ap (λ (i : ℕ). third_field (eqb i 63 || eqb i 64) (field_of f 2)) (found-kind l k f r.found) ∙ p.2 in
      times-by-fields l t n j f r.found
      ∙ (λ i. field-count (field_of f 0) (child_a t n) j p.0 fits.1 i
      + field-count (field_of f 1) (child_b t n) j p.1 fits.2 i
      + third-count (eqb k 63 || eqb k 64) (field_of f 2) (child_c t n) j q fits.3 i)

  -- its children stand before it
  below : (x : ℕ) → ((x ≡ 0 → ⊥) → 0 < times_child_of l t n x) → 0 < n → x < n
  below x h z = go (ℕ_discrete x 0)
    where
      go : Dec (x ≡ 0) → x < n
      go (yes e) = omega arith
      go (no p) = (child-below l t n x keeps (h p)).1

  module _ (some : 0 < n) where
    pub a-below : child_a t n < n
    a-below =
        below (child_a t n)
        (λ p. omega (arith, kept-times (child_a t n), count-self (child_a t n) (child_a t n) p refl)) some

    pub b-below : child_b t n < n
    b-below =
        below (child_b t n)
        (λ p. omega (arith, kept-times (child_b t n), count-self (child_b t n) (child_b t n) p refl)) some

    pub c-below : third < n
    c-below = below third (λ p. omega (arith, kept-times third, count-self third third p refl)) some

  -- what its fields note is noted of its children
  pub noted-three : (s : ℕ) (notes : List ℕ)
      → Noted l t n s notes (note_at s third (note_at s (child_b t n) (note_at s (child_a t n) notes)))
  noted-three s notes = record {
    size = three-length s (child_a t n) (child_b t n) third notes;
    values = λ j h. three-noted s (child_a t n) (child_b t n) third notes j h
        ∙ ap (λ (i : ℕ). Rattle.checker.specs.Notes.noted s i (get_or notes j 0)) (sym (kept-times j));
  }

-- a count of more records is no smaller
pub times-up : (l : Language) (t : List ℕ) (j k m : ℕ) → times_child l t k j ≤ times_child l t (m + k) j
times-up l t j k zero = omega (arith, ap (λ (i : ℕ). times_child l t i j) (same_sum k))
  where
    same_sum : (k : ℕ) → 0 + k ≡ k
    same_sum k = omega arith
times-up l t j k (suc m) =
    let more : suc m + k ≡ suc (m + k) = omega arith in
    omega (
      arith,
      times-up l t j k m,
      times-suc l t j (m + k),
      ap (λ (i : ℕ). times_child l t i j) more,
    )
