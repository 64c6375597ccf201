-- The copies of each record that the translation of an accepted source table has, and that they come to at most 14
-- target records: statements, terms and predicates have one copy, expressions and places at most two.
use Prim.Native.Nat.{ℕ, ◌+◌, ◌*◌, ◌≤◌, ◌<◌}
use native.Mathlib.Decide.{ℕ_discrete, dec_lt}
use native.Mathlib.Nat.{mul-le-mul_right}
use native.Mathlib.Omega.{arith}
use mathlib.Core.Bool.{Bool, true, false, cond, ◌&&◌, false≢true}
use mathlib.Core.List.{List}
use mathlib.Core.Path.{◌≡◌, refl, sym, ap, ◌∙◌}
use borrow.Author.Tests.{leb-true, eqb-true, eq-eqb, ne_eqb}
use lib.Dec.{leb, eqb}
use Rattle.std.specs.Prelude.{None, Some}
use Rattle.rules.specs.Types.{Search}
use Rattle.rules.specs.Records.{record_count, kind_of, child_a, child_b, child_c}
use Rattle.rules.specs.Kinds.{source, sort_number, Field, unnamed, child, number, Form, field_of, forms}
use Rattle.rules.specs.Checker.{times_in, times_child_of}
use Rattle.rules.specs.Nodes.{node_sort, node_at}
use Rattle.rules.specs.Origins.{own_records, copies_of_child, copies_in, copies_of, target_records, sum}
use Rattle.rules.proofs.Lists.BooleanLaws.{three-pass}
use Rattle.rules.proofs.Acceptance.KindViews.{every, found-passes, found-kind}
use Rattle.rules.proofs.Acceptance.ParentLaws.{IsParent, times-by-fields, same, times-least, parent_above}
use Rattle.rules.proofs.Acceptance.ParentLaws.{parent-of-child}
use Rattle.rules.proofs.Acceptance.ParentLaws.{child-single, last-no-child, has-parent, by-descent}
use Rattle.rules.proofs.Acceptance.ScopeLaws.{copies-child, copies-last}
use Rattle.rules.proofs.Acceptance.Acceptance.{Accepted, passed-of}
use Rattle.rules.proofs.Acceptance.FormLaws.{FieldHolds}
use Rattle.rules.proofs.Acceptance.Standing.{form-sort}
use Rattle.rules.proofs.Acceptance.AcceptedTrees.{accepted-record, accepted-last}
use Rattle.rules.proofs.Translation.RecordSizes.{has_no_number, children-only}
use Rattle.rules.proofs.Translation.Counting.{sum-equal, sum-none, sum-pick}

-- how often j is a child, by the numbers in the fields
times-field : (t : List ℕ) (n : ℕ) (f : Field) (x j : ℕ) → has_no_number f ≡ true → FieldHolds source t n f x → 1 ≤ j
    → times_in f x j ≡ same x j
times-field t n unnamed x j p h q = sym (ap (λ (b : Bool). cond b 1 0) (ne_eqb x j (λ e. omega arith)))
times-field t n (child s) x j p h q = refl
times-field t n (number g) x j p h q = absurd (false≢true p)

-- c copies in a field, from how often it is that field's child
copies-field : (b : Bool) (c : ℕ) → cond b c 0 ≡ c * cond b 1 0
copies-field true c = omega arith
copies-field false c = omega arith

-- the copies in the fields together
pub copies-in-all : (t : List ℕ) (m j : ℕ) → copies_in t m j
    ≡ cond (eqb (child_a t m) j) (copies_of_child (kind_of t m) 0) 0
    + cond (eqb (child_b t m) j) (copies_of_child (kind_of t m) 1) 0 + cond (eqb (child_c t m) j) 1 0
copies-in-all t m j = omega arith

-- the most copies of a record, by its sort's number: expressions and places have the lowest
abbrev most_copies : ℕ → ℕ
most_copies s = cond (leb s 2) 2 1

-- c copies in each of at most r are no more than a field's child may have
abbrev field_kept : ℕ → ℕ → Field → Bool
field_kept c r unnamed = true
field_kept c r (child s) = leb (r * c) (most_copies (sort_number s))
field_kept c r (number p) = true

copies_kept : Form → Bool
copies_kept f =
    let r = most_copies (sort_number f.sort) in
    field_kept (copies_of_child f.kind 0) r (field_of f 0) && field_kept (copies_of_child f.kind 1) r (field_of f 1)
    && field_kept 1 r (field_of f 2)

all-kept : every copies_kept (forms source) ≡ true
unfolding copies_kept
all-kept = refl

-- so many copies of a kind's own records are few
few_records : Form → Bool
few_records f = leb (most_copies (sort_number f.sort) * own_records f.kind) 14

all-few : every few_records (forms source) ≡ true
unfolding few_records
all-few = refl

-- what a field's child may have
kept_field : (t : List ℕ) (m : ℕ) (f : Field) (x j c r : ℕ) → has_no_number f ≡ true → FieldHolds source t m f x → x ≡ j
    → 1 ≤ j → field_kept c r f ≡ true → r * c ≤ most_copies (node_sort (node_at source t j))
kept_field t m unnamed x j c r p h e q k = absurd (omega arith)
kept_field t m (child s) x j c r p h e q k =
    rw (sym (ap (λ (y : ℕ). node_sort (node_at source t y)) e) ∙ h.2) (leb-true (r * c) (most_copies (sort_number s)) k)
kept_field t m (number g) x j c r p h e q k = absurd (false≢true p)

-- the child is in one of the fields
one_field : (r x y most : ℕ) (p q s : Bool) → ◌≡◌ {A = ℕ} (cond p 1 0 + cond q 1 0 + cond s 1 0) 1
    → (p ≡ true → r * x ≤ most) → (q ≡ true → r * y ≤ most) → (s ≡ true → r * 1 ≤ most)
    → r * (cond p x 0 + cond q y 0 + cond s 1 0) ≤ most
one_field r x y most true false false e f g h = omega (arith, f refl)
one_field r x y most false true false e f g h = omega (arith, g refl)
one_field r x y most false false true e f g h = omega (arith, h refl)
one_field r x y most true true true e f g h = absurd (omega arith)
one_field r x y most true true false e f g h = absurd (omega arith)
one_field r x y most true false true e f g h = absurd (omega arith)
one_field r x y most false true true e f g h = absurd (omega arith)
one_field r x y most false false false e f g h = absurd (omega arith)

abbrev parent_number : Search → ℕ
parent_number (Some m) = m
parent_number None = 0

module _ (t : List ℕ) (a : Accepted source t) where
  times-are : (m : ℕ) → 1 ≤ m → m ≤ record_count t → (j : ℕ) → 1 ≤ j
      → times_child_of source t m j ≡ same (child_a t m) j + same (child_b t m) j + same (child_c t m) j
  times-are m p q j u =
      let w = (accepted-record source t a m p q).1 in
      let f = w.form in
      let k = children-only (kind_of t m) f w.found in
      omega (
        arith,
        times-by-fields source t m j f w.found,
        times-field t m (field_of f 0) (child_a t m) j k.0 w.holds.a u,
        times-field t m (field_of f 1) (child_b t m) j k.1 w.holds.b u,
        times-field t m (field_of f 2) (child_c t m) j k.2 w.holds.c u,
      )

  no_copies : (m : ℕ) → 1 ≤ m → m ≤ record_count t → (j : ℕ) → 1 ≤ j → times_child_of source t m j ≡ 0
      → copies_in t m j ≡ 0
  no_copies m p q j u z =
      let e = times-are m p q j u in
      let x : same (child_a t m) j ≡ 0 = omega arith in
      let y : same (child_b t m) j ≡ 0 = omega arith in
      omega (
        arith,
        copies-in-all t m j,
        copies-field (eqb (child_a t m) j) (copies_of_child (kind_of t m) 0),
        copies-field (eqb (child_b t m) j) (copies_of_child (kind_of t m) 1),
        ap (λ (i : ℕ). copies_of_child (kind_of t m) 0 * i) x,
        ap (λ (i : ℕ). copies_of_child (kind_of t m) 1 * i) y,
      )

  -- each copy of a record stands in one of its parent
  other-parent : (m p j : ℕ) → 1 ≤ m → m ≤ record_count t → IsParent source t p j → (p ≡ m → ⊥)
      → times_child_of source t m j ≡ 0
  other-parent m p j u v h d = go (dec_lt 0 (times_child_of source t m j))
    where
      go : Dec (0 < times_child_of source t m j) → times_child_of source t m j ≡ 0
      go (no q) = omega arith
      go (yes q) =
          let keeps = passed-of source t a in
          let is : IsParent source t m j = record { in_table = (u, v); has-child = q } in
          absurd (d
          (ap parent_number (sym (parent-of-child source t keeps p j h) ∙ parent-of-child source t keeps m j is)))

  pub copies-handed : (j : ℕ) → 1 ≤ j → j < record_count t
      → sum (record_count t) (λ m. copies_of t (record_count t) m * copies_in t m j) ≡ copies_of t (record_count t) j
  copies-handed j p q =
      let keeps = passed-of source t a in
      let above = has-parent source t keeps j p q in
      let x = above.number in
      let h = above.is-parent in
      let f : ℕ → ℕ = λ m. copies_of t (record_count t) m * copies_in t m j in
      let only : (m : ℕ) → 1 ≤ m → m ≤ record_count t → f m ≡ cond (eqb x m) 1 0 * f m =
      λ m u v. elim (ℕ_discrete x m) [
        | yes e ↦ rw (eq-eqb x m e) (omega arith)
        | no d ↦ rw (ne_eqb x m d, no_copies m u v j p (other-parent m x j u v h d)) (omega arith)
      ] in
      omega (
        arith,
        sum-equal (record_count t) f (λ m. cond (eqb x m) 1 0 * f m) only,
        sum-pick (record_count t) x 1 f h.in_table.0 h.in_table.1,
        copies-child t keeps x j h,
      )

  pub last-in-none : sum (record_count t) (λ m. copies_of t (record_count t) m * copies_in t m (record_count t)) ≡ 0
  last-in-none =
      let N = record_count t in
      sum-none N _ (λ m u v. rw (no_copies m u v N a.not-empty
      (omega (
        arith,
        times-least source t N m N u v,
        last-no-child source t (passed-of source t a),
      ))) (omega arith))

  -- down from the last record, which has one copy
  Few : ℕ → Type 0
  Few n = copies_of t (record_count t) n ≤ most_copies (node_sort (node_at source t n))

  few-below : (m c : ℕ) → IsParent source t m c → Few m → Few c
  unfolding Few copies_kept
  few-below m c h few =
      let keeps = passed-of source t a in
      let p = h.in_table.0 in
      let q = h.in_table.1 in
      let below = parent_above source t keeps m c h in
      let w = (accepted-record source t a m p q).1 in
      let f = w.form in
      let k = kind_of t m in
      let r = most_copies (sort_number f.sort) in
      let n = children-only k f w.found in
      let v : (field_kept (copies_of_child k 0) r (field_of f 0) ≡ true)
      × (field_kept (copies_of_child k 1) r (field_of f 1) ≡ true)
      × (field_kept 1 r (field_of f 2) ≡ true) =
      rw (found-kind source k f w.found)
      (three-pass _ _ _ (found-passes copies_kept source k f all-kept w.found)) in
      let most = most_copies (node_sort (node_at source t c)) in
      let field : r * copies_in t m c ≤ most =
      rw (copies-in-all t m c)
      (one_field r (copies_of_child k 0) (copies_of_child k 1) most
      (eqb (child_a t m) c) (eqb (child_b t m) c) (eqb (child_c t m) c)
      (sym (times-are m p q c below.0) ∙ child-single source t keeps m c h)
      (λ e. kept_field t m (field_of f 0) (child_a t m) c _ r n.0 w.holds.a (eqb-true _ c e) below.0 v.0)
      (λ e. kept_field t m (field_of f 1) (child_b t m) c _ r n.1 w.holds.b (eqb-true _ c e) below.0 v.1)
      (λ e. kept_field t m (field_of f 2) (child_c t m) c _ r n.2 w.holds.c (eqb-true _ c e) below.0 v.2)) in
      let at_most : copies_of t (record_count t) m ≤ r =
      rw (form-sort source t m f w.found w.holds) at few in
      omega (arith, field, mul-le-mul_right (copies_in t m c) at_most, copies-child t keeps m c h)

  few-last : Few (record_count t)
  unfolding Few
  few-last = rw (accepted-last source t a) (omega (arith, copies-last t (passed-of source t a)))

  -- "At most 14 target records come from each source record."
  pub at-most-14 : (n : ℕ) → 1 ≤ n → n ≤ record_count t → target_records t n ≤ 14
  unfolding Few few_records
  at-most-14 n p q =
      let w = (accepted-record source t a n p q).1 in
      let f = w.form in
      let k = kind_of t n in
      let r = most_copies (sort_number f.sort) in
      let few : copies_of t (record_count t) n ≤ r =
      rw (form-sort source t n f w.found w.holds) at
      (by-descent source t (passed-of source t a) Few few-last few-below n p q) in
      let small : r * own_records k ≤ 14 =
      rw (found-kind source k f w.found) (leb-true _ 14 (found-passes few_records source k f all-few w.found)) in
      omega (arith, small, mul-le-mul_right (own_records k) few)
