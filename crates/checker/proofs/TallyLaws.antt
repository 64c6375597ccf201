-- What is noted of a record tells how many parents were met: none, one, or more.
use Rattle.rules.specs.Kinds.{Language}
use Prim.Native.Nat.{ℕ, zero, suc, ◌+◌, ◌-◌, ◌%◌, ◌<◌, ◌≤◌}
use native.Mathlib.Omega.{arith}
use native.Mathlib.Decide.{dec_lt}
use mathlib.Core.Bool.{Bool, true, false, not, cond}
use mathlib.Core.List.{List}
use mathlib.Core.Path.{◌≡◌, refl, sym, ap, subst, ◌∙◌}
use borrow.Author.Tests.{eq-eqb, ne_eqb, lt-ltb, le-ltb}
use lib.Dec.{eqb, ltb}
use lib.ListN.{length, get_or, set, length-set}
use lib.Seq.{get_or-set_same, get_or-set_other}
use Rattle.rules.specs.Records.{record_count}
use Rattle.rules.specs.Checker.{times_child_of, times_child, shape_fault}
use Rattle.rules.proofs.Acceptance.ParentLaws.{Passed, child-below, child-once, child-single, times-suc, times_none}
use Rattle.rules.proofs.Acceptance.ParentLaws.{times-least}
use Rattle.checker.specs.Notes.{joined, noted}
use Rattle.checker.specs.Scopes.{Given, Noted, Formed, Ready}
use Rattle.checker.proofs.TimesLaws.{times-up}
use Rattle.checker.proofs.ShapeLaws.{shape-other}
use Rattle.checker.proofs.DescentLaws.{no-fault}

-- v is noted of a record that c parents were met of
abbrev Tally : ℕ → ℕ → Type 0
Tally zero v = v ≡ 0
Tally (suc zero) v = v % 2 ≡ 1
Tally (suc (suc c)) v = v ≡ 2

tally-joined : (s c v : ℕ) → s % 2 ≡ 1 → Tally c v → Tally (suc c) (joined s v)
tally-joined s zero v odd h = ap (λ (b : Bool). cond {A = ℕ} b s 2 % 2) (eq-eqb v 0 h) ∙ odd
tally-joined s (suc zero) v odd h = ap (λ (b : Bool). cond {A = ℕ} b s 2) (ne_eqb v 0 (λ e. omega arith))
tally-joined s (suc (suc c)) v odd h = ap (λ (b : Bool). cond {A = ℕ} b s 2) (ne_eqb v 0 (λ e. omega arith))

tally-noted : (s k c v : ℕ) → s % 2 ≡ 1 → Tally c v → Tally (k + c) (noted s k v)
tally-noted s zero c v odd h = let same : c ≡ 0 + c = omega arith in subst (λ (i : ℕ). Tally i v) same h
tally-noted s (suc k) c v odd h =
    let more : suc (k + c) ≡ suc k + c = omega arith in
    subst (λ (i : ℕ). Tally i (noted s (suc k) v)) more
    (tally-joined s (k + c) (noted s k v) odd (tally-noted s k c v odd h))

tally-even : (c v : ℕ) → Tally c v → eqb (v % 2) 0 ≡ not (eqb c 1)
tally-even zero v h = ap (λ (n : ℕ). eqb (n % 2) 0) h
tally-even (suc zero) v h = ap (λ (n : ℕ). eqb n 0) h
tally-even (suc (suc c)) v h =
    ap (λ (n : ℕ). eqb (n % 2) 0) h ∙ sym (ap not (ne_eqb (suc (suc c)) 1 (λ e. omega arith)))

-- the notes tell the parents above n of each record but the last
pub record Tallied (l : Language) (t : List ℕ) (n : ℕ) (notes : List ℕ) : Type 0 where
  pub size : record_count t < length notes
  pub last : get_or notes (record_count t) 0 ≡ cond (shape_fault l t (record_count t)) 0 1
  pub tallies : (j : ℕ) → j < record_count t → (c : ℕ) → c + times_child l t n j ≡ times_child l t (record_count t) j
      → Tally c (get_or notes j 0)

pub tallied-start : (l : Language) (t notes : List ℕ) (v : ℕ) → Ready l t notes
    → v ≡ cond (shape_fault l t (record_count t)) 0 1 → Tallied l t (record_count t) (set notes (record_count t) v)
tallied-start l t notes v h e = record {
  size = omega (arith, h.size, length-set notes (record_count t) v);
  last = get_or-set_same notes (record_count t) v 0 h.size ∙ e;
  tallies = λ j p c q.
      let none : 0 ≡ c = omega arith in
      subst (λ (i : ℕ). Tally i (get_or (set notes (record_count t) v) j 0)) none
      (get_or-set_other notes (record_count t) j v 0 (λ i. omega arith) ∙ h.nothing j);
}

module _ (l : Language) (t : List ℕ) (formed : Formed l t) where
  not-child : (i j : ℕ) → 1 ≤ i → i ≤ record_count t → i ≤ j → times_child_of l t i j ≡ 0
  not-child i j a b h = go (dec_lt 0 (times_child_of l t i j))
    where
      go : Dec (0 < times_child_of l t i j) → times_child_of l t i j ≡ 0
      go (no q) = omega arith
      go (yes q) = absurd (omega (arith, child-below l t i j (no-fault l t formed i a b) q))

  even-last : (b : Bool) → eqb (cond {A = ℕ} b 0 1 % 2) 0 ≡ b
  even-last true = refl
  even-last false = refl

  -- at n all its parents are met
  pub tallied-here : (n : ℕ) (notes : List ℕ) → 0 < n → n ≤ record_count t → Tallied l t n notes
      → eqb (get_or notes n 0 % 2) 0 ≡ shape_fault l t n
  tallied-here n notes a b h = go (dec_lt n (record_count t))
    where
      go : Dec (n < record_count t) → eqb (get_or notes n 0 % 2) 0 ≡ shape_fault l t n
      go (yes p) =
          let own : times_child l t n n ≡ 0 = times_none l t n n (λ i c d. not-child i n c (omega arith) d) in
          let all = times_child l t (record_count t) n in
          tally-even all (get_or notes n 0) (h.tallies n p all (omega (arith, own)))
          ∙ shape-other l t n all (λ e. omega arith) refl
      go (no p) =
          let same : record_count t ≡ n = omega arith in
          subst (λ (k : ℕ). eqb (get_or notes k 0 % 2) 0 ≡ shape_fault l t k) same
          (ap (λ (v : ℕ). eqb (v % 2) 0) h.last ∙ even-last (shape_fault l t (record_count t)))

  down : (m s : ℕ) (notes notes' : List ℕ) → suc m ≤ record_count t → s % 2 ≡ 1 → Noted l t (suc m) s notes notes'
      → Tallied l t (suc m) notes → Tallied l t m notes'
  down m s notes notes' b odd g h = record {
    size = omega (arith, g.size, h.size);
    last = g.values (record_count t) h.size
        ∙ ap (λ (k : ℕ). noted s k (get_or notes (record_count t) 0))
        (not-child (suc m) (record_count t) (omega arith) b b) ∙ h.last;
    tallies = λ j p c e.
        let k = times_child_of l t (suc m) j in
        let sum : record_count t - suc m + suc m ≡ record_count t = omega arith in
        let up : times_child l t (suc m) j ≤ times_child l t (record_count t) j =
        subst (λ (i : ℕ). times_child l t (suc m) j ≤ times_child l t i j) sum
        (times-up l t j (suc m) (record_count t - suc m)) in
        let both : k + (c - k) ≡ c = omega (arith, times-suc l t j m, up) in
        subst (λ (v : ℕ). Tally c v) (sym (g.values j (omega (arith, h.size))))
        (subst (λ (i : ℕ). Tally i (noted s k (get_or notes j 0))) both
        (tally-noted s k (c - k) (get_or notes j 0) odd
        (h.tallies j p (c - k) (omega (arith, times-suc l t j m, up)))));
  }

  pub tallied-down : (n s : ℕ) (notes notes' : List ℕ) → 0 < n → n ≤ record_count t → s % 2 ≡ 1
      → Noted l t n s notes notes' → Tallied l t n notes → Tallied l t (n - 1) notes'
  tallied-down zero s notes notes' a b odd g h = absurd (omega arith)
  tallied-down (suc m) s notes notes' a b odd g h =
      let same : m ≡ suc m - 1 = omega arith in
      subst (λ (k : ℕ). Tallied l t k notes') same (down m s notes notes' b odd g h)

-- where each record has one parent, its scope is noted of each child
pub given-noted : (l : Language) (t : List ℕ) → Formed l t → Passed l t → (n s : ℕ) (notes notes' : List ℕ) → 1 ≤ n
    → n ≤ record_count t → Noted l t n s notes notes' → Tallied l t n notes → Given l t n (λ j. s) notes notes'
given-noted l t formed keeps n s notes notes' a b g h = record {
  size = g.size;
  values = λ j p. g.values j p ∙ go j (dec_lt 0 (times_child_of l t n j));
}
  where
    go : (j : ℕ) → Dec (0 < times_child_of l t n j) → noted s (times_child_of l t n j) (get_or notes j 0)
        ≡ cond (ltb 0 (times_child_of l t n j)) s (get_or notes j 0)
    go j (no q) =
        let none : times_child_of l t n j ≡ 0 = omega arith in
        ap (λ (k : ℕ). noted s k (get_or notes j 0)) none
        ∙ sym (ap (λ (x : Bool). cond x s (get_or notes j 0)) (le-ltb 0 (times_child_of l t n j) (omega arith)))
    go j (yes q) =
        let below = child-below l t n j (no-fault l t formed n a b) q in
        let once : times_child_of l t n j ≡ 1 =
        child-single l t keeps n j (record { in_table = (a, b); has-child = q }) in
        let all : times_child l t (record_count t) j ≡ 1 = child-once l t keeps j below.0 (omega (arith, below)) in
        let least = times-least l t j n n a (omega arith) in
        let sum : record_count t - n + n ≡ record_count t = omega arith in
        let up : times_child l t n j ≤ times_child l t (record_count t) j =
        subst (λ (i : ℕ). times_child l t n j ≤ times_child l t i j) sum (times-up l t j n (record_count t - n)) in
        let nothing : get_or notes j 0 ≡ 0 =
        h.tallies j (omega (arith, below)) 0 (omega (arith, once, all, least, up)) in
        ap (λ (k : ℕ). noted s k (get_or notes j 0)) once ∙ ap (joined s) nothing
        ∙ sym (ap (λ (x : Bool). cond x s (get_or notes j 0)) (lt-ltb 0 (times_child_of l t n j) q))
