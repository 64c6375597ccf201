-- Laws of `tabulate` and `flat`: rows of one width, what stands in each, and a put of one.
use Prim.Native.Nat.{ℕ, zero, suc, ◌+◌, ◌*◌, ◌<◌, ◌≤◌}
use native.Mathlib.Nat.{le_of_suc-le-suc, add-zero, zero-add}
use native.Mathlib.Omega.{arith}
use native.Mathlib.Decide.{ℕ_discrete}
use mathlib.Core.Path.{◌≡◌, refl, sym, ap, ◌∙◌}
use mathlib.Core.Logic.{◌≢◌}
use mathlib.Core.List.{List, [], ◌∷◌, ◌++◌, append_assoc}
use lib.ListN.{replicate, replicate-append-replicate, length, get_or, set, take, drop, length-append, length-drop}
use lib.ListN.{length-set, get_or-append}
use lib.Seq.{ext_get_or, get_or-set_same, get_or-set_other, get_or-drop, take-append-add, drop-append-add, take-append-le}
use lib.Seq.{drop-append-le, drop-append_seam, drop-drop}
use Rattle.rules.specs.Words.{little, part, put, word_at, flat, tabulate}

-- ---- table
module _ {A : Type 0} where
  pub length-tabulate : (n s : ℕ) (f : ℕ → A) → length (tabulate s n f) ≡ n
  unfolding tabulate
  length-tabulate zero s f = refl
  length-tabulate (suc n) s f = ap suc (length-tabulate n (suc s) f)

  pub get_d_tabulate : (n s i : ℕ) (f : ℕ → A) (d : A) → i < n → get_or (tabulate s n f) i d ≡ f (s + i)
  unfolding tabulate
  get_d_tabulate zero s i f d h = absurd (omega arith)
  get_d_tabulate (suc n) s zero f d h = ap f (sym (add-zero s))
  get_d_tabulate (suc n) s (suc i) f d h = get_d_tabulate n (suc s) i f d (le_of_suc-le-suc h) ∙ ap f (omega arith)

  tabulate-from : (k s : ℕ) (f g : ℕ → A) → ((j : ℕ) → s ≤ j → j < s + k → g j ≡ f j) → tabulate s k g ≡ tabulate s k f
  unfolding tabulate
  tabulate-from zero s f g h = refl
  tabulate-from (suc k) s f g h =
      let here : g s ≡ f s = h s (omega arith) (omega arith) in
      rw (here, tabulate-from k (suc s) f g (λ j a b. h j (omega arith) (omega arith))) refl

  pub tabulate-same : (n : ℕ) (f g : ℕ → A) → ((j : ℕ) → j < n → g j ≡ f j) → tabulate 0 n g ≡ tabulate 0 n f
  tabulate-same n f g e = tabulate-from n 0 f g (λ j a b. e j (omega arith))

  -- a list by its elements
  pub tabulate-list : (n : ℕ) (f : ℕ → A) (xs : List A) (d : A) → length xs ≡ n
      → ((j : ℕ) → j < n → f j ≡ get_or xs j d) → tabulate 0 n f ≡ xs
  tabulate-list n f xs d e h = ext_get_or d (tabulate 0 n f) xs (length-tabulate n 0 f ∙ sym e) each
    where
      each : (j : ℕ) → j < length (tabulate 0 n f) → get_or (tabulate 0 n f) j d ≡ get_or xs j d
      each j l =
          let k : j < n = omega (arith, length-tabulate n 0 f) in
          get_d_tabulate n 0 j f d k ∙ ap f (zero-add j) ∙ h j k

  pub tabulate-set : (n i : ℕ) (f g : ℕ → A) (v : A) → i < n → g i ≡ v → ((j : ℕ) → j < n → j ≢ i → g j ≡ f j)
      → tabulate 0 n g ≡ set (tabulate 0 n f) i v
  tabulate-set n i f g v h here rest =
      tabulate-list n g (set (tabulate 0 n f) i v) v (length-set (tabulate 0 n f) i v ∙ length-tabulate n 0 f)
      (λ j l. at j l (ℕ_discrete j i))
    where
      at : (j : ℕ) → j < n → Dec (j ≡ i) → g j ≡ get_or (set (tabulate 0 n f) i v) j v
      at j l (yes e) =
          let there : i < length (tabulate 0 n f) = omega (arith, length-tabulate n 0 f) in
          ap g e ∙ here ∙ sym (ap (λ (k : ℕ). get_or (set (tabulate 0 n f) i v) k v) e
          ∙ get_or-set_same (tabulate 0 n f) i v v there)
      at j l (no d) =
          rest j l d ∙ sym (get_or-set_other (tabulate 0 n f) i j v v d ∙ get_d_tabulate n 0 j f v l ∙ ap f (zero-add j))

-- ---- put
pub put_right : (a b : List ℕ) (n : ℕ) (bs : List ℕ) → put (a ++ b) (length a + n) bs ≡ a ++ put b n bs
put_right a b n bs =
    let e : length a + n + length bs ≡ length a + (n + length bs) = omega arith in
    rw (take-append-add a b n, e, drop-append-add a b (n + length bs)) (simp append_assoc)

pub put-left : (a b : List ℕ) (n : ℕ) (bs : List ℕ) → n + length bs ≤ length a → put (a ++ b) n bs ≡ put a n bs ++ b
put-left a b n bs h =
    let k : n ≤ length a = omega arith in
    rw (take-append-le n a b k, drop-append-le (n + length bs) a b h) (simp append_assoc)

-- ---- rows of one width
module _ {A : Type 0} (f : A → List ℕ) (w : ℕ) (wide : (x : A) → length (f x) ≡ w) where
  pub length-flat : (xs : List A) → length (flat f xs) ≡ length xs * w
  unfolding flat
  length-flat [] = omega arith
  length-flat (x ∷ xs) = simp length-append (omega (arith, wide x, length-flat xs))

  pub flat-put : (xs : List A) (i : ℕ) (y : A) → i < length xs → put (flat f xs) (i * w) (f y) ≡ flat f (set xs i y)
  unfolding flat
  flat-put [] i y h = absurd (omega arith)
  flat-put (x ∷ xs) zero y h =
      let e : 0 * w ≡ 0 = omega arith in
      let d : 0 + length (f y) ≡ length (f x) = omega (arith, wide x, wide y) in
      rw (e, d, drop-append_seam (f x) (flat f xs)) refl
  flat-put (x ∷ xs) (suc i) y h =
      let e : suc i * w ≡ length (f x) + i * w = omega (arith, wide x) in
      rw e (put_right (f x) (flat f xs) (i * w) (f y)
      ∙ ap (λ (t : List ℕ). f x ++ t) (flat-put xs i y (le_of_suc-le-suc h)))

  -- the rows from one on, with bytes behind them all
  pub flat-drop : (xs : List A) (i : ℕ) (d : A) (behind : List ℕ) → i < length xs
      → drop (i * w) (flat f xs ++ behind) ≡ f (get_or xs i d) ++ (flat f (drop (suc i) xs) ++ behind)
  unfolding flat
  flat-drop [] i d behind h = absurd (omega arith)
  flat-drop (x ∷ xs) zero d behind h = let e : 0 * w ≡ 0 = omega arith in rw (e, append_assoc) refl
  flat-drop (x ∷ xs) (suc i) d behind h =
      let e : suc i * w ≡ length (f x) + i * w = omega (arith, wide x) in
      rw (e, append_assoc) (drop-append-add (f x) (flat f xs ++ behind) (i * w)
      ∙ flat-drop xs i d behind (le_of_suc-le-suc h))

  -- one row, with bytes before and behind them all
  module _ (front : List ℕ) (xs : List A) (behind : List ℕ) (i : ℕ) (d : A) (inside : i < length xs) where
    row_drop : drop (length front + i * w) (front ++ (flat f xs ++ behind))
        ≡ f (get_or xs i d) ++ (flat f (drop (suc i) xs) ++ behind)
    row_drop = drop-append-add front (flat f xs ++ behind) (i * w) ∙ flat-drop xs i d behind inside

    pub row-byte : (at k : ℕ) → at ≡ length front + i * w + k → k < w
        → get_or (front ++ (flat f xs ++ behind)) at 0 ≡ get_or (f (get_or xs i d)) k 0
    row-byte at k e h =
        let l : k < length (f (get_or xs i d)) = omega (arith, wide (get_or xs i d)) in
        ap (λ (j : ℕ). get_or (front ++ (flat f xs ++ behind)) j 0) e
        ∙ sym (get_or-drop (length front + i * w) (front ++ (flat f xs ++ behind)) k 0)
        ∙ ap (λ (t : List ℕ). get_or t k 0) row_drop
        ∙ get_or-append (f (get_or xs i d)) (flat f (drop (suc i) xs) ++ behind) 0 k l

    pub row-part : (n at k : ℕ) → at ≡ length front + i * w + k → k + n ≤ w
        → part n (front ++ (flat f xs ++ behind)) at ≡ part n (f (get_or xs i d)) k
    row-part n at k e h =
        let l : k ≤ length (f (get_or xs i d)) = omega (arith, wide (get_or xs i d)) in
        let r : n ≤ length (drop k (f (get_or xs i d))) = simp length-drop (omega (arith, wide (get_or xs i d))) in
        ap (part n (front ++ (flat f xs ++ behind))) e
        ∙ ap (take n) (sym (drop-drop k (length front + i * w) (front ++ (flat f xs ++ behind)))
        ∙ ap (drop k) row_drop ∙ drop-append-le k (f (get_or xs i d)) (flat f (drop (suc i) xs) ++ behind) l)
        ∙ take-append-le n (drop k (f (get_or xs i d))) (flat f (drop (suc i) xs) ++ behind) r

    pub row_word : (n at k : ℕ) → at ≡ length front + i * w + k → k + n ≤ w
        → word_at n (front ++ (flat f xs ++ behind)) at ≡ word_at n (f (get_or xs i d)) k
    unfolding word_at
    row_word n at k e h = ap little (row-part n at k e h)

-- ---- all alike
pub tabulate-all : {A : Type 0} (n s : ℕ) (f : ℕ → A) (x : A) → ((j : ℕ) → f j ≡ x) → tabulate s n f ≡ replicate n x
unfolding tabulate
tabulate-all zero s f x h = refl
tabulate-all (suc n) s f x h = rw (h s, tabulate-all n (suc s) f x h) refl

pub flat-all : {A : Type 0} (f : A → List ℕ) (x : A) (w n : ℕ) → f x ≡ replicate w 0
    → flat f (replicate n x) ≡ replicate (n * w) 0
unfolding flat
flat-all f x w zero e = let z : 0 * w ≡ 0 = omega arith in rw z refl
flat-all f x w (suc n) e =
    let k : suc n * w ≡ w + n * w = omega arith in
    rw (e, flat-all f x w n e, k) (replicate-append-replicate w (n * w) 0)

pub get_d-zero : (n i : ℕ) → ◌≡◌ {A = ℕ} (get_or (replicate n 0) i 0) 0
get_d-zero zero i = refl
get_d-zero (suc n) zero = refl
get_d-zero (suc n) (suc i) = get_d-zero n i
