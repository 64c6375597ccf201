-- Laws of `fill`: one place more, places past the end, what stands where, a fill that changes nothing, a part that is
-- filled whole, and one behind other places.
use Prim.Native.Nat.{ℕ, zero, suc, ◌+◌, ◌≤◌, ◌<◌}
use native.Mathlib.Nat.{le_of_suc-le-suc}
use native.Mathlib.Omega.{arith}
use mathlib.Core.Path.{◌≡◌, refl, sym, ap, ap₂, ◌∙◌}
use mathlib.Core.Bool.{Bool, true, false, ◌&&◌, cond}
use mathlib.Core.List.{List, [], ◌∷◌, ◌++◌}
use lib.Dec.{ltb, leb}
use lib.ListN.{length, get_or, set, replicate, drop, length-drop}
use lib.Seq.{length-take-le}
use borrow.Rule.Slice.PartMut.{mid_of, put_mid}
use borrow.Author.Tests.{ltb-true, ltb-false, leb-true, leb-false}
use Rattle.rules.specs.Words.{flat}
use Rattle.rules.specs.Memory.{one, fill}
use Rattle.rules.specs.Layout.{mark_bytes}
use Rattle.rules.proofs.Memory.MemoryLaws.{fill-inside, fill-below, fill-above}

module _ {A : Type 0} (x : A) where
  pub fill_none : (l : List A) (s : ℕ) → fill l s 0 x ≡ l
  fill_none [] s = refl
  fill_none (y ∷ ys) zero = refl
  fill_none (y ∷ ys) (suc s) = ap (λ (t : List A). y ∷ t) (fill_none ys s)

  pub fill_more : (l : List A) (s n i : ℕ) → s + n ≡ i → i < length l → set (fill l s n x) i x ≡ fill l s (suc n) x
  fill_more [] s n i e h = absurd (omega arith)
  fill_more (y ∷ ys) zero zero zero e h = ap (λ (t : List A). x ∷ t) (sym (fill_none ys zero))
  fill_more (y ∷ ys) zero zero (suc i) e h = absurd (omega arith)
  fill_more (y ∷ ys) zero (suc n) zero e h = absurd (omega arith)
  fill_more (y ∷ ys) zero (suc n) (suc i) e h =
      ap (λ (t : List A). x ∷ t) (fill_more ys zero n i (omega arith) (le_of_suc-le-suc h))
  fill_more (y ∷ ys) (suc s) n zero e h = absurd (omega arith)
  fill_more (y ∷ ys) (suc s) n (suc i) e h =
      ap (λ (t : List A). y ∷ t) (fill_more ys s n i (omega arith) (le_of_suc-le-suc h))

  pub fill_one : (l : List A) (i : ℕ) → fill l i 1 x ≡ set l i x
  fill_one [] i = refl
  fill_one (y ∷ ys) zero = ap (λ (t : List A). x ∷ t) (fill_none ys zero)
  fill_one (y ∷ ys) (suc i) = ap (λ (t : List A). y ∷ t) (fill_one ys i)

  -- what is past the end changes nothing
  pub fill-past : (l : List A) (s m n : ℕ) → length l ≤ s + m → m ≤ n → fill l s n x ≡ fill l s m x
  fill-past [] s m n h k = refl
  fill-past (y ∷ ys) zero zero n h k = absurd (omega arith)
  fill-past (y ∷ ys) zero (suc m) zero h k = absurd (omega arith)
  fill-past (y ∷ ys) zero (suc m) (suc n) h k =
      ap (λ (t : List A). x ∷ t) (fill-past ys zero m n (omega arith) (le_of_suc-le-suc k))
  fill-past (y ∷ ys) (suc s) m n h k = ap (λ (t : List A). y ∷ t) (fill-past ys s m n (omega arith) k)

  -- a fill with what stands there changes nothing
  pub fill-same : (l : List A) (s n : ℕ) (d : A) → ((i : ℕ) → s ≤ i → i < s + n → get_or l i d ≡ x) → fill l s n x ≡ l
  fill-same [] s n d f = refl
  fill-same (y ∷ ys) zero zero d f = refl
  fill-same (y ∷ ys) zero (suc n) d f =
      ap₂ (λ (h : A) (t : List A). h ∷ t) (sym (f zero (omega arith) (omega arith)))
      (fill-same ys zero n d (λ i a b. f (suc i) (omega arith) (omega arith)))
  fill-same (y ∷ ys) (suc s) n d f =
      ap (λ (t : List A). y ∷ t) (fill-same ys s n d (λ i a b. f (suc i) (omega arith) (omega arith)))

  -- a part of the list, filled whole
  fill-between : (l : List A) (s n : ℕ) → s + n ≤ length l → put_mid s n l (replicate n x) ≡ fill l s n x
  fill-between [] zero zero h = refl
  fill-between [] zero (suc n) h = absurd (omega arith)
  fill-between [] (suc s) n h = absurd (omega arith)
  fill-between (y ∷ ys) zero zero h = refl
  fill-between (y ∷ ys) zero (suc n) h =
      ap (λ (t : List A). x ∷ t) (fill-between ys zero n (omega arith))
  fill-between (y ∷ ys) (suc s) n h = ap (λ (t : List A). y ∷ t) (fill-between ys s n (omega arith))

  pub fill-part : (l : List A) (s k n : ℕ) {part : List A} → s + n ≤ length l → k ≡ n
      → part ≡ replicate (length (mid_of s k l)) x → put_mid s k l part ≡ fill l s n x
  fill-part l s k n {part} h e p =
      let long : length (mid_of s n l) ≡ n = length-take-le n (drop s l) (omega (arith, length-drop s l)) in
      ap (put_mid s k l) p ∙ ap (λ (m : ℕ). put_mid s m l (replicate (length (mid_of s m l)) x)) e
      ∙ ap (λ (m : ℕ). put_mid s n l (replicate m x)) long ∙ fill-between l s n h

  pub fill-all : (l : List A) (n : ℕ) → length l ≤ n → fill l 0 n x ≡ replicate (length l) x
  fill-all [] n h = refl
  fill-all (y ∷ ys) zero h = absurd (omega arith)
  fill-all (y ∷ ys) (suc n) h = ap (λ (t : List A). x ∷ t) (fill-all ys n (le_of_suc-le-suc h))

  -- a fill behind other places
  pub fill-right : (a b : List A) (s n i : ℕ) → length a + s ≡ i → fill (a ++ b) i n x ≡ a ++ fill b s n x
  fill-right [] b s n i e = ap (λ (k : ℕ). fill b k n x) (place s i e)
    where
      place : (s i : ℕ) → 0 + s ≡ i → i ≡ s
      place s i e = omega arith
  fill-right (y ∷ a) b s n zero e = absurd (omega arith)
  fill-right (y ∷ a) b s n (suc i) e = ap (λ (t : List A). y ∷ t) (fill-right a b s n i (omega arith))

  pub get_d-fill : (l : List A) (s n i : ℕ) (d : A) → i < length l
      → get_or (fill l s n x) i d ≡ cond (leb s i && ltb i (s + n)) x (get_or l i d)
  get_d-fill l s n i d h = pick (leb s i) (ltb i (s + n)) refl refl
    where
      pick : (a b : Bool) → leb s i ≡ a → ltb i (s + n) ≡ b → get_or (fill l s n x) i d ≡ cond (a && b) x (get_or l i d)
      pick true true e f = fill-inside l s n x i d h (leb-true s i e) (ltb-true i (s + n) f)
      pick true false e f = fill-above l s n x i d (ltb-false i (s + n) f)
      pick false b e f = fill-below l s n x i d (leb-false s i e)

-- marks are bytes of one
pub flat-marks-fill : (l : List Bool) (s n : ℕ) (b : Bool)
    → fill (flat mark_bytes l) s n (one b) ≡ flat mark_bytes (fill l s n b)
unfolding flat
flat-marks-fill [] s n b = refl
flat-marks-fill (y ∷ ys) zero zero b = refl
flat-marks-fill (y ∷ ys) zero (suc n) b = ap (λ (t : List ℕ). one b ∷ t) (flat-marks-fill ys zero n b)
flat-marks-fill (y ∷ ys) (suc s) n b = ap (λ (t : List ℕ). one y ∷ t) (flat-marks-fill ys s n b)
