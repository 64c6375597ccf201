-- In a table that holds a tree that keeps the rules, each record but the last is a child exactly once.
use Prim.Native.Nat.{ℕ, zero, suc, ◌+◌, ◌≤◌, ◌<◌}
use native.Mathlib.Omega.{arith}
use native.Mathlib.Nat.{add-zero}
use native.Mathlib.Decide.{dec_lt}
use mathlib.Core.Path.{◌≡◌, refl, sym, ap, ◌∙◌}
use mathlib.Core.Bool.{Bool, false, not, cond}
use mathlib.Core.List.{List}
use lib.IntN.{ℤ}
use borrow.Author.Tests.{eq-eqb, ne_eqb}
use Rattle.rules.specs.Records.{Record, record_count, kind_of, record_at}
use Rattle.rules.specs.Kinds.{Language, statement, sort_number, Field, unnamed, child, number, form_of, field_of}
use Rattle.rules.specs.Checker.{sort_of, times_in, times_of, times_child_of, times_child, shape_fault}
use Rattle.rules.specs.Emission.{RecordTree, none, node, tree_size, root_number, field_c}
use Rattle.rules.proofs.Acceptance.Sound.{Scope}
use Rattle.rules.proofs.Translation.EmissionLaws.{Holds, own_record, root-size, field-root}
use Rattle.rules.proofs.Translation.FittingTrees.{root_kind, FieldTree, scope_below, Fits, Fitting, no-sort}
use Rattle.rules.proofs.Translation.FittingTrees.{root-kind, Held}
use Rattle.rules.proofs.Translation.FittingTrees.{records-fit}
use Rattle.rules.proofs.Acceptance.ParentLaws.{Passed, times-in-all, times-suc, times_zero, same, same-yes}

pub same-no : (x j : ℕ) → (x ≡ j → ⊥) → same x j ≡ 0
same-no x j h = ap (λ (b : Bool). cond b 1 0) (ne_eqb x j h)

same-to : (x y j : ℕ) → x ≡ y → same x j ≡ same y j
same-to x y j e = ap (λ (z : ℕ). same z j) e

-- how often j is among 1 .. k
unfoldable among : ℕ → ℕ → ℕ
among zero j = 0
among (suc k) j = among k j + same (suc k) j

among-suc : (k j : ℕ) → among (suc k) j ≡ among k j + same (suc k) j
unfolding among
among-suc k j = refl

among-above : (k j : ℕ) → k < j → among k j ≡ 0
unfolding among
among-above zero j h = refl
among-above (suc k) j h = omega (arith, among-above k j (omega arith), same-no (suc k) j (omega arith))

among-once : (k j : ℕ) → 1 ≤ j → j ≤ k → among k j ≡ 1
among-once zero j p q = absurd (omega arith)
among-once (suc k) j p q = go (dec_lt j (suc k)) (among-once k j p)
  where
    go : Dec (j < suc k) → (j ≤ k → among k j ≡ 1) → among (suc k) j ≡ 1
    go (yes h) f = omega (arith, among-suc k j, f (omega arith), same-no (suc k) j (omega arith))
    go (no h) f =
        omega (arith, among-suc k j, among-above k j (omega arith), same-to (suc k) j j (omega arith), same-yes j)

-- what a field's child adds
times-field : (l : Language) (F : Field) (w : RecordTree) (x n j : ℕ) → 1 ≤ j → FieldTree l F w x
    → times_in F (field_c w x n) j ≡ same (root_number w n) j
times-field l unnamed w x n j p h = rw h.0 (sym (same-no 0 j (omega arith)))
times-field l (child s) none x n j p h = absurd (no-sort l s h)
times-field l (child s) (node k m z y a b c) x n j p h = refl
times-field l (number q) w x n j p h = rw h.0 (sym (same-no 0 j (omega arith)))

times-record : (l : Language) (t : List ℕ) (i j : ℕ) (r : Record) → record_at t i ≡ r
    → times_child_of l t i j ≡ times_of (form_of l r.kind) r j
unfolding times_child_of
times-record l t i j r e = ap (λ (r : Record). times_of (form_of l r.kind) r j) e

-- a tree's own record has its subtrees' roots for children
pub times-own : (l : Language) (t : List ℕ) (k m : ℕ) (z : ℤ) (x : ℕ) (a b c : RecordTree) (n j : ℕ) (ρ : Scope)
    → 1 ≤ j → Fits l k m z x a b c ρ → Holds (record_at t) (node k m z x a b c) n
    → times_child_of l t (n + suc (tree_size a + tree_size b + tree_size c)) j
    ≡ same (root_number a n) j + same (root_number b (n + tree_size a)) j
    + same (root_number c (n + tree_size a + tree_size b)) j
times-own l t k m z x a b c n j ρ p h q =
    let r : Record = own_record k m z x a b c n in
    times-record l t (n + suc (tree_size a + tree_size b + tree_size c)) j r q.3
    ∙ ap (λ o. times_of o r j) h.is-form
    ∙ times-in-all h.form r j
    ∙ (λ i. (ap (λ (y : ℕ). times_in (field_of h.form 0) y j) (field-root a n)
    ∙ times-field l (field_of h.form 0) a 0 n j p h.field-a) i
    + (ap (λ (y : ℕ). times_in (field_of h.form 1) y j) (field-root b (n + tree_size a))
    ∙ times-field l (field_of h.form 1) b 0 (n + tree_size a) j p h.field-b) i
    + times-field l (field_of h.form 2) c x (n + tree_size a + tree_size b) j p h.field-c i)

-- each of a tree's records is a child once, but for its root
once : (l : Language) (t : List ℕ) (w : RecordTree) (n j : ℕ) (ρ : Scope) → 1 ≤ j → Holds (record_at t) w n
    → Fitting l w ρ → times_child l t (n + tree_size w) j + same (root_number w n) j + among n j
    ≡ times_child l t n j + among (n + tree_size w) j
once l t none n j ρ p q h = rw add-zero (omega (arith, same-no 0 j (omega arith)))
once l t (node k m z x a b c) n j ρ p q h =
    let σ : Scope = scope_below k m ρ in
    let i : ℕ = n + tree_size a + tree_size b + tree_size c in
    let e : n + suc (tree_size a + tree_size b + tree_size c) ≡ suc i = omega arith in
    omega (
      arith,
      once l t a n j σ p q.0 h.1,
      once l t b (n + tree_size a) j σ p q.1 h.2,
      once l t c (n + tree_size a + tree_size b) j σ p q.2 h.3,
      times-own l t k m z x a b c n j ρ p h.0 q,
      ap (λ (y : ℕ). times_child l t y j) e,
      ap (λ (y : ℕ). times_child_of l t y j) e,
      ap (λ (y : ℕ). among y j) e,
      same-to (n + suc (tree_size a + tree_size b + tree_size c)) (suc i) j e,
      times-suc l t j i,
      among-suc i j,
    )

-- ---- 6
last-shape : (l : Language) (t : List ℕ) → sort_of l (kind_of t (record_count t)) ≡ sort_number statement
    → (n : ℕ) → n ≡ record_count t → shape_fault l t n ≡ false
unfolding shape_fault
last-shape l t h n e =
    rw (eq-eqb n (record_count t) e, shape_fault)
    (ap not (eq-eqb (sort_of l (kind_of t n)) (sort_number statement) (ap (λ (y : ℕ). sort_of l (kind_of t y)) e ∙ h)))

other-shape : (l : Language) (t : List ℕ) (n : ℕ) → (n ≡ record_count t → ⊥) → times_child l t (record_count t) n ≡ 1
    → shape_fault l t n ≡ false
unfolding shape_fault
other-shape l t n e h =
    rw (ne_eqb n (record_count t) e, shape_fault) (ap not (eq-eqb (times_child l t (record_count t) n) 1 h))

-- a table that holds the tree of a statement, and nothing else, keeps 3 to 6
pub passed : (l : Language) (t : List ℕ) (w : RecordTree) → record_count t ≡ tree_size w → Held l t w 0
    → sort_of l (root_kind w) ≡ sort_number statement → Passed l t
passed l t w count held sort = record {
  records = λ n p q. records-fit l t w 0 held n p (omega arith);
  shape = λ n p q. go n p q (dec_lt n (record_count t));
}
  where
    counted : (n : ℕ) → 1 ≤ n → n < record_count t → times_child l t (record_count t) n ≡ 1
    counted n p q =
        let e : 0 + tree_size w ≡ record_count t = omega arith in
        omega (
          arith,
          once l t w 0 n held.in_scope_at_root p held.records held.fitting,
          ap (λ (y : ℕ). times_child l t y n) e,
          ap (λ (y : ℕ). among y n) e,
          among-above 0 n p,
          same-no (root_number w 0) n (omega (arith, root-size w)),
          times_zero l t n,
          among-once (record_count t) n p (omega arith),
        )

    last : 1 ≤ record_count t → sort_of l (kind_of t (record_count t)) ≡ sort_number statement
    last p =
        ap (λ (y : ℕ). sort_of l (kind_of t y)) (count ∙ sym (root-size w))
        ∙ ap (sort_of l) (root-kind t w 0 held.records (omega (arith, root-size w))) ∙ sort

    go : (n : ℕ) → 1 ≤ n → n ≤ record_count t → Dec (n < record_count t) → shape_fault l t n ≡ false
    go n p q (yes h) = other-shape l t n (omega arith) (counted n p h)
    go n p q (no h) = last-shape l t (last (omega arith)) n (omega arith)
