-- Parents in a table that keeps 3 to 6: a child's parent is the record that has it, and has a greater number.
use Prim.Native.Nat.{ℕ, zero, suc, ◌+◌, ◌≤◌, ◌<◌}
use native.Mathlib.Omega.{arith}
use native.Mathlib.Decide.{dec_lt}
use mathlib.Core.Path.{◌≡◌, refl, ap, subst, ◌∙◌}
use mathlib.Core.Bool.{Bool, true, false, cond, ◌&&◌, false≢true}
use mathlib.Core.List.{List}
use mathlib.Core.Option.{Option, none, some}
use lib.Dec.{ltb, eqb}
use borrow.Author.Tests.{ltb-true, ltb-false, lt-ltb, le-ltb, eq-eqb, eqb-true, ne_eqb, not-false}
use Rattle.std.specs.Prelude.{None, Some, Ok}
use Rattle.rules.specs.Types.{Search}
use Rattle.rules.specs.Records.{Record, record_count, kind_of, child_a, child_b, child_c, record_at}
use Rattle.rules.specs.Kinds.{Language, Sort, sort_number, Field, unnamed, child, number, Form, field_of, form_of}
use Rattle.rules.specs.Checker.{field_fits, literal_fits, fields_fit, sort_of, child_fits, children_fit, fault_of}
use Rattle.rules.specs.Checker.{record_fault, times_in, times_of, times_child_of, times_child, shape_fault, parent_of}
pub use Rattle.rules.proofs.Lists.BooleanLaws.{three-pass, five-pass}
use Rattle.rules.proofs.Lists.BooleanLaws.{and_split}
use Rattle.rules.proofs.Lists.SearchLaws.{lowest-nothing, lowest-at, Outcome, lowest-outcome}
use Rattle.rules.proofs.Acceptance.SaidLaws.{faults, err-is-not-ok}

-- a table that keeps 3, 4, 5 and 6
pub record Passed (l : Language) (t : List ℕ) : Type 0 where
  pub records : (n : ℕ) → 1 ≤ n → n ≤ record_count t → record_fault l t n ≡ Ok tt
  pub shape : (n : ℕ) → 1 ≤ n → n ≤ record_count t → shape_fault l t n ≡ false

pub clash : false ≡ true → ⊥
clash e = false≢true e

pub two-pass : (p q : Bool) → (p && q) ≡ true → (p ≡ true) × (q ≡ true)
two-pass p q e = and_split p q e

fits-of : (p q : Bool) → faults p q ≡ Ok tt → (p ≡ true) × (q ≡ true)
fits-of true true e = (refl, refl)
fits-of true false e = absurd (err-is-not-ok e)
fits-of false q e = absurd (err-is-not-ok e)

module _ (l : Language) (t : List ℕ) (m : ℕ) where
  -- what is a child in a field of record m
  in_field : (F : Field) (x c : ℕ) → field_fits F x ≡ true → child_fits l t m F x ≡ true → 0 < times_in F x c
      → (0 < c) × (c < m)
  in_field unnamed x c f g h = absurd (omega arith)
  in_field (number p) x c f g h = absurd (omega arith)
  in_field (child s) x c f g h = go (eqb x c) refl h
    where
      go : (b : Bool) → eqb x c ≡ b → 0 < cond b 1 0 → (0 < c) × (c < m)
      go false e k = absurd (omega arith)
      go true e k =
          let both = and_split (ltb x m) (eqb (sort_of l (kind_of t x)) (sort_number s)) g in
          omega (arith, eqb-true x c e, ltb-true 0 x f, ltb-true x m both.0)

  in-fields : (f : Form) (r : Record) (c : ℕ) → fields_fit f r ≡ true → children_fit l t m f r ≡ true
      → 0 < times_of (some f) r c → (0 < c) × (c < m)
  in-fields f r c p q h =
      let ps = five-pass (field_fits f.mark r.mark) (field_fits (field_of f 0) r.a)
      (field_fits (field_of f 1) r.b) (field_fits (field_of f 2) r.c) (literal_fits f.literal r.literal) p in
      let qs = three-pass (child_fits l t m (field_of f 0) r.a) (child_fits l t m (field_of f 1) r.b)
      (child_fits l t m (field_of f 2) r.c) q in
      go (dec_lt 0 (times_in (field_of f 0) r.a c)) (dec_lt 0 (times_in (field_of f 1) r.b c))
      (in_field (field_of f 0) r.a c ps.1 qs.0)
      (in_field (field_of f 1) r.b c ps.2 qs.1)
      (in_field (field_of f 2) r.c c ps.3 qs.2)
    where
      go : Dec (0 < times_in (field_of f 0) r.a c) → Dec (0 < times_in (field_of f 1) r.b c)
          → (0 < times_in (field_of f 0) r.a c → (0 < c) × (c < m))
          → (0 < times_in (field_of f 1) r.b c → (0 < c) × (c < m))
          → (0 < times_in (field_of f 2) r.c c → (0 < c) × (c < m)) → (0 < c) × (c < m)
      go (yes u) v a b d = a u
      go (no u) (yes v) a b d = b v
      go (no u) (no v) a b d = d (omega arith)

  in-record : (o : Option Form) (c : ℕ) → fault_of l t m o ≡ Ok tt → 0 < times_of o (record_at t m) c
      → (0 < c) × (c < m)
  in-record none c e h = absurd (err-is-not-ok e)
  in-record (some f) c e h =
      let both : (fields_fit f (record_at t m) ≡ true) × (children_fit l t m f (record_at t m) ≡ true) = fits-of _ _ e in
      in-fields f (record_at t m) c both.0 both.1 h

  pub child-below : (c : ℕ) → record_fault l t m ≡ Ok tt → 0 < times_child_of l t m c → (0 < c) × (c < m)
  unfolding record_fault times_child_of
  child-below c e h = in-record (form_of l (kind_of t m)) c e h

-- ---- counts
module _ (l : Language) (t : List ℕ) (c : ℕ) where
  pub times-suc : (k : ℕ) → times_child l t (suc k) c ≡ times_child l t k c + times_child_of l t (suc k) c
  unfolding times_child
  times-suc k = refl

  pub times_zero : times_child l t 0 c ≡ 0
  unfolding times_child
  times_zero = refl

  times-same : (i j : ℕ) → i ≡ j → times_child_of l t i c ≡ times_child_of l t j c
  times-same i j e = ap (λ (n : ℕ). times_child_of l t n c) e

  -- the count holds what any record, and any two, add to it
  pub times-least : (i k : ℕ) → 1 ≤ i → i ≤ k → times_child_of l t i c ≤ times_child l t k c
  times-least i zero p q = absurd (omega arith)
  times-least i (suc k) p q = go (dec_lt i (suc k)) (times-least i k p)
    where
      go : Dec (i < suc k) → (i ≤ k → times_child_of l t i c ≤ times_child l t k c)
          → times_child_of l t i c ≤ times_child l t (suc k) c
      go (yes h) f = omega (arith, times-suc k, f (omega arith))
      go (no h) f = omega (arith, times-suc k, times-same i (suc k) (omega arith))

  pub times-both : (i n k : ℕ) → 1 ≤ i → i < n → n ≤ k
      → times_child_of l t i c + times_child_of l t n c ≤ times_child l t k c
  times-both i n zero p q r = absurd (omega arith)
  times-both i n (suc k) p q r = go (dec_lt n (suc k)) (times-both i n k p q)
    where
      go : Dec (n < suc k) → (n ≤ k → times_child_of l t i c + times_child_of l t n c ≤ times_child l t k c)
          → times_child_of l t i c + times_child_of l t n c ≤ times_child l t (suc k) c
      go (yes h) f = omega (arith, times-suc k, f (omega arith))
      go (no h) f = omega (arith, times-suc k, times-same n (suc k) (omega arith), times-least i k p (omega arith))

  pub times_none : (k : ℕ) → ((i : ℕ) → 1 ≤ i → i ≤ k → times_child_of l t i c ≡ 0) → times_child l t k c ≡ 0
  times_none zero h = times_zero
  times_none (suc k) h =
      omega (arith, times-suc k, times_none k (λ i p q. h i p (omega arith)), h (suc k) (omega arith) (omega arith))

  -- what the search for a parent finds
  pub parent-outcome : Outcome (λ m. ltb 0 (times_child_of l t m c)) 1 (record_count t) (parent_of l t c)
  unfolding parent_of
  parent-outcome = lowest-outcome (λ m. ltb 0 (times_child_of l t m c)) 1 (record_count t)

  pub parent-lowest : (n : ℕ) → 1 ≤ n → n ≤ record_count t → 0 < times_child_of l t n c
      → ((i : ℕ) → 1 ≤ i → i < n → times_child_of l t i c ≡ 0) → parent_of l t c ≡ Some n
  unfolding parent_of
  parent-lowest n p q h f =
      lowest-at (λ m. ltb 0 (times_child_of l t m c)) 1 (record_count t) n p (omega arith) (lt-ltb 0 _ h)
      (λ i a b. le-ltb 0 (times_child_of l t i c) (omega (arith, f i a b)))

  pub parent-none : ((i : ℕ) → 1 ≤ i → i ≤ record_count t → times_child_of l t i c ≡ 0) → parent_of l t c ≡ None
  unfolding parent_of
  parent-none f =
      lowest-nothing (λ m. ltb 0 (times_child_of l t m c)) 1 (record_count t)
      (λ i a b. le-ltb 0 (times_child_of l t i c) (omega (arith, f i a (omega arith))))

-- what 6 asks of another record than the last
once-of : (l : Language) (t : List ℕ) (c : ℕ) → eqb c (record_count t) ≡ false → shape_fault l t c ≡ false
    → times_child l t (record_count t) c ≡ 1
unfolding shape_fault
once-of l t c e h = eqb-true (times_child l t (record_count t) c) 1 (not-false _ (rw (e, shape_fault) at h))

-- ---- a table that keeps 3 to 6
pub record IsParent (l : Language) (t : List ℕ) (m c : ℕ) : Type 0 where
  pub in_table : (1 ≤ m) × (m ≤ record_count t)
  pub has-child : 0 < times_child_of l t m c

pub record Parent (l : Language) (t : List ℕ) (c : ℕ) : Type 0 where
  pub number : ℕ
  pub is-parent : IsParent l t number c

pub parent_is : (l : Language) (t : List ℕ) (m c : ℕ) → parent_of l t c ≡ Some m → IsParent l t m c
parent_is l t m c e =
    let h : (1 ≤ m) × (m < 1 + record_count t) × (ltb 0 (times_child_of l t m c) ≡ true) =
    subst (Outcome (λ m. ltb 0 (times_child_of l t m c)) 1 (record_count t)) e (parent-outcome l t c) in
    record { in_table = omega arith; has-child = ltb-true 0 (times_child_of l t m c) h.2 }

-- how often c is a child, by the fields
pub times-in-all : (f : Form) (r : Record) (c : ℕ) → times_of (some f) r c
    ≡ times_in (field_of f 0) r.a c + times_in (field_of f 1) r.b c + times_in (field_of f 2) r.c c
times-in-all f r c = omega arith

pub times-by-fields : (l : Language) (t : List ℕ) (n c : ℕ) (f : Form) → form_of l (kind_of t n) ≡ some f
    → times_child_of l t n c
    ≡ times_in (field_of f 0) (child_a t n) c + times_in (field_of f 1) (child_b t n) c + times_in (field_of f 2) (child_c t n) c
unfolding times_child_of
times-by-fields l t n c f e =
    ap (λ (o : Option Form). times_of o (record_at t n) c) e ∙ times-in-all f (record_at t n) c

-- 1 if the numbers are the same
abbrev pub same : ℕ → ℕ → ℕ
same x j = cond (eqb x j) 1 0

pub same-yes : (j : ℕ) → same j j ≡ 1
same-yes j = ap (λ (b : Bool). cond b 1 0) (eq-eqb j j refl)

-- a record has those for children that stand in its fields for children
module _ (l : Language) (t : List ℕ) (n : ℕ) (f : Form) (s : Sort) (is-form : form_of l (kind_of t n) ≡ some f)
    (in_table : (1 ≤ n) × (n ≤ record_count t)) where
  times-of : (c : ℕ) → times_child_of l t n c
      ≡ times_in (field_of f 0) (child_a t n) c + times_in (field_of f 1) (child_b t n) c
      + times_in (field_of f 2) (child_c t n) c
  times-of c = times-by-fields l t n c f is-form

  times-self : (F : Field) (c : ℕ) → F ≡ child s → times_in F c c ≡ 1
  times-self F c e = rw e (same-yes c)

  pub parent-a : field_of f 0 ≡ child s → IsParent l t n (child_a t n)
  parent-a e = record {
    in_table = in_table;
    has-child = omega (arith, times-of (child_a t n), times-self (field_of f 0) (child_a t n) e);
  }

  pub parent-b : field_of f 1 ≡ child s → IsParent l t n (child_b t n)
  parent-b e = record {
    in_table = in_table;
    has-child = omega (arith, times-of (child_b t n), times-self (field_of f 1) (child_b t n) e);
  }

  pub parent-c : field_of f 2 ≡ child s → IsParent l t n (child_c t n)
  parent-c e = record {
    in_table = in_table;
    has-child = omega (arith, times-of (child_c t n), times-self (field_of f 2) (child_c t n) e);
  }

module _ (l : Language) (t : List ℕ) (keeps : Passed l t) where
  pub parent_above : (m c : ℕ) → IsParent l t m c → (0 < c) × (c < m)
  parent_above m c h = child-below l t m c (keeps.records m h.in_table.0 h.in_table.1) h.has-child

  -- another record than the last is a child exactly once
  pub child-once : (c : ℕ) → 1 ≤ c → c < record_count t → times_child l t (record_count t) c ≡ 1
  child-once c p q = once-of l t c (ne_eqb c (record_count t) (omega arith)) (keeps.shape c p (omega arith))

  -- a child's parent is the record that has it
  pub parent-of-child : (m c : ℕ) → IsParent l t m c → parent_of l t c ≡ Some m
  parent-of-child m c h =
      let below : (0 < c) × (c < m) = parent_above m c h in
      parent-lowest l t c m h.in_table.0 h.in_table.1 h.has-child
      (λ i a b. omega (
        arith,
        times-both l t c i m (record_count t) a b h.in_table.1,
        h.has-child,
        child-once c below.0 (omega arith),
      ))

  pub child-single : (m c : ℕ) → IsParent l t m c → times_child_of l t m c ≡ 1
  child-single m c h =
      let below = parent_above m c h in
      omega (
        arith,
        h.has-child,
        times-least l t c m (record_count t) h.in_table.0 h.in_table.1,
        child-once c below.0 (omega (arith, below.1, h.in_table.1)),
      )

  -- the last record is no child, and has no parent
  not-child : (n : ℕ) → record_count t ≤ n → (i : ℕ) → 1 ≤ i → i ≤ record_count t → times_child_of l t i n ≡ 0
  not-child n h i a b = go (dec_lt 0 (times_child_of l t i n))
    where
      go : Dec (0 < times_child_of l t i n) → times_child_of l t i n ≡ 0
      go (no q) = omega arith
      go (yes q) = absurd (omega (arith, parent_above i n (record { in_table = (a, b); has-child = q })))

  pub last-no-child : times_child l t (record_count t) (record_count t) ≡ 0
  last-no-child = times_none l t (record_count t) (record_count t) (not-child (record_count t) (omega arith))

  pub last-parent : (n : ℕ) → record_count t ≤ n → parent_of l t n ≡ None
  last-parent n h = parent-none l t n (not-child n h)

  -- every other record has one
  pub has-parent : (c : ℕ) → 1 ≤ c → c < record_count t → Parent l t c
  has-parent c p q = go (parent_of l t c) (parent-outcome l t c)
    where
      go : (s : Search) → Outcome (λ m. ltb 0 (times_child_of l t m c)) 1 (record_count t) s → Parent l t c
      go (Some m) h = record {
        number = m;
        is-parent = record { in_table = omega arith; has-child = ltb-true 0 (times_child_of l t m c) h.2 };
      }
      go None h =
          absurd (omega (
            arith,
            child-once c p q,
            times_none l t c (record_count t)
                (λ i a b. omega (arith, ltb-false 0 (times_child_of l t i c) (h i a (omega arith)))),
          ))

  -- every record is reached from the last by going to children
  pub by-descent : (P : ℕ → Type 0) → P (record_count t) → ((m c : ℕ) → IsParent l t m c → P m → P c)
      → (n : ℕ) → 1 ≤ n → n ≤ record_count t → P n
  by-descent P last down n p q = reach (record_count t) n p q (omega arith)
    where
      here : (n : ℕ) → n ≤ record_count t → record_count t ≤ n → P n
      here n q h = subst P (omega arith) last

      over : (d n : ℕ) → 1 ≤ n → n ≤ record_count t → record_count t ≤ n + suc d
          → ((m : ℕ) → 1 ≤ m → m ≤ record_count t → record_count t ≤ m + d → P m) → Dec (n < record_count t) → P n
      over d n p q h f (no r) = here n q (omega arith)
      over d n p q h f (yes r) =
          let above : Parent l t n = has-parent n p r in
          let m : ℕ = above.number in
          let is : IsParent l t m n = above.is-parent in
          down m n is (f m is.in_table.0 is.in_table.1 (omega (arith, parent_above m n is)))

      reach : (d n : ℕ) → 1 ≤ n → n ≤ record_count t → record_count t ≤ n + d → P n
      reach zero n p q h = here n q (omega arith)
      reach (suc d) n p q h = over d n p q h (λ m a b e. reach d m a b e) (dec_lt n (record_count t))
