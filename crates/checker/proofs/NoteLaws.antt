-- What is noted of records, after it is put for a child.
use Prim.Native.Nat.{ℕ, zero, suc, ◌+◌, ◌<◌, ◌≤◌}
use native.Mathlib.Omega.{arith}
use mathlib.Core.Bool.{Bool, true, false, cond}
use mathlib.Core.List.{List}
use mathlib.Core.Path.{◌≡◌, refl, sym, ap, subst, ◌∙◌}
use borrow.Author.Tests.{eq-eqb, ne_eqb, eqb-true, eqb-false}
use lib.Dec.{eqb}
use lib.ListN.{length, get_or, set, length-set}
use lib.Seq.{get_or-set_same, get_or-set_other}
use Rattle.checker.specs.Notes.{put_at, joined, noted, note_at}

-- how often j is the child x, 0 being none
abbrev pub count : ℕ → ℕ → ℕ
count x j = cond (eqb x 0) 0 (cond (eqb x j) 1 0)

pub count-most : (x j : ℕ) → count x j ≤ 1
count-most x j = go (eqb x 0) (eqb x j)
  where
    go : (b c : Bool) → cond b 0 (cond c 1 0) ≤ 1
    go true c = omega arith
    go false true = omega arith
    go false false = omega arith

pub count-has : (x j : ℕ) → 0 < count x j → (x ≡ 0 → ⊥) × (x ≡ j)
count-has x j h = go (eqb x 0) (eqb x j) refl refl h
  where
    go : (b c : Bool) → eqb x 0 ≡ b → eqb x j ≡ c → 0 < cond b 0 (cond c 1 0) → (x ≡ 0 → ⊥) × (x ≡ j)
    go true c d e k = absurd (omega arith)
    go false true d e k = (eqb-false x 0 d, eqb-true x j e)
    go false false d e k = absurd (omega arith)

pub count-self : (x j : ℕ) → (x ≡ 0 → ⊥) → x ≡ j → count x j ≡ 1
count-self x j p e = (λ i. cond {A = ℕ} (ne_eqb x 0 p i) 0 (cond (eq-eqb x j e i) 1 0))

pub put-length : (x v : ℕ) (l : List ℕ) → length (put_at x v l) ≡ length l
put-length x v l = go (eqb x 0)
  where
    go : (b : Bool) → length (cond b l (set l x v)) ≡ length l
    go true = refl
    go false = length-set l x v

-- what holds of v for the child, and of what was noted for another, holds of what is noted now
pub put_step : (P : ℕ → Type 0) (x v : ℕ) (l : List ℕ) (j : ℕ) → j < length l → (0 < count x j → P v)
    → (count x j ≡ 0 → P (get_or l j 0)) → P (get_or (put_at x v l) j 0)
put_step P x v l j h p q = go (eqb x 0) (eqb x j) refl p q
  where
    go : (b c : Bool) → eqb x j ≡ c → (0 < cond b 0 (cond c 1 0) → P v)
        → (◌≡◌ {A = ℕ} (cond b 0 (cond c 1 0)) 0 → P (get_or l j 0)) → P (get_or (cond b l (set l x v)) j 0)
    go true c e p q = q refl
    go false true e p q =
        subst P (sym (ap (λ (i : ℕ). get_or (set l i v) j 0) (eqb-true x j e) ∙ get_or-set_same l j v 0 h))
        (p (omega arith))
    go false false e p q =
        subst P (sym (get_or-set_other l x j v 0 (λ i. eqb-false x j e (sym i)))) (q refl)

-- ---- one more parent
note-length : (s x : ℕ) (l : List ℕ) → length (note_at s x l) ≡ length l
note-length s x l = put-length x (joined s (get_or l x 0)) l

note_step : (s x : ℕ) (l : List ℕ) (j : ℕ) → j < length l
    → get_or (note_at s x l) j 0 ≡ noted s (count x j) (get_or l j 0)
note_step s x l j h =
    put_step (λ (v : ℕ). v ≡ noted s (count x j) (get_or l j 0)) x (joined s (get_or l x 0)) l j h
    (λ p. ap (λ (i : ℕ). joined s (get_or l i 0)) (count-has x j p).1 ∙ sym (times 1 (omega (arith, count-most x j))))
    (λ e. sym (times 0 e))
  where
    times : (k : ℕ) → count x j ≡ k → noted s (count x j) (get_or l j 0) ≡ noted s k (get_or l j 0)
    times k e = ap (λ (i : ℕ). noted s i (get_or l j 0)) e

noted-add : (s a b v : ℕ) → noted s a (noted s b v) ≡ noted s (a + b) v
noted-add s zero b v = let same : b ≡ 0 + b = omega arith in ap (λ (k : ℕ). noted s k v) same
noted-add s (suc a) b v =
    let more : suc (a + b) ≡ suc a + b = omega arith in
    ap (joined s) (noted-add s a b v) ∙ ap (λ (k : ℕ). noted s k v) more

-- of A, B and C
module _ (s a b c : ℕ) (l : List ℕ) where
  abbrev first : List ℕ
  first = note_at s a l

  abbrev second : List ℕ
  second = note_at s b first

  second-length : length second ≡ length l
  second-length = note-length s b first ∙ note-length s a l

  pub three-length : length (note_at s c second) ≡ length l
  three-length = note-length s c second ∙ second-length

  pub three-noted : (j : ℕ) → j < length l
      → get_or (note_at s c second) j 0 ≡ noted s (count a j + count b j + count c j) (get_or l j 0)
  three-noted j h =
      let i = count a j in
      let k = count b j in
      let m = count c j in
      let all : m + (k + i) ≡ i + k + m = omega arith in
      note_step s c second j (omega (arith, second-length))
      ∙ ap (noted s m) (note_step s b first j (omega (arith, note-length s a l))
      ∙ ap (noted s k) (note_step s a l j h) ∙ noted-add s k i (get_or l j 0))
      ∙ noted-add s m (k + i) (get_or l j 0)
      ∙ ap (λ (q : ℕ). noted s q (get_or l j 0)) all
