-- Laws of `little`, `digits`, `part`, `put` and words, of any width.
use Prim.Native.Nat.{ℕ, zero, suc, ◌+◌, ◌-◌, ◌*◌, ◌/◌, ◌%◌, ◌^◌, ◌≤◌, ◌<◌}
use native.Mathlib.Nat.{add-zero, le_of_suc-le-suc}
use native.Mathlib.Numerals.{add-one}
use native.Mathlib.Omega.{arith}
use mathlib.Core.Path.{◌≡◌, refl, sym, ap, ◌∙◌}
use mathlib.Core.Bool.{Bool, true, false}
use mathlib.Core.List.{List, [], ◌∷◌, ◌++◌, append_assoc}
use mathlib.Core.Logic.{◌⊎◌, ⊎_elim}
use lib.Dec.{ltb}
use lib.ListN.{get_or-append, length, take, drop, get_or, set, length-append, length-take, length-drop}
use lib.ListN.{take-append-drop}
use lib.Seq.{paste, paste-suc, take_all, drop-cons, take_at, drop_at, take-append-le, drop-append-le, drop-append-add}
use lib.Seq.{drop-drop, get_or-drop, length-take-le, get_or-append-add, get_or-take}
use lib.IntN.{ℤ, pos, negsuc}
use borrow.Author.Tests.{ltb-true, ltb-false, lt-ltb}
use mir.Syntax.{w64}
use mir.Val.{SFits, to_z, of_z, sel}
use mir.Facts.{to_z-of_z, Fits-of_z}
use Rattle.rules.specs.Words.{little, digits, part, put, word_at, integer_at, integer_bytes}
use Rattle.rules.specs.Numbers.{in_range}

-- ---- numbers and their bytes
pub little-nil : little [] ≡ 0
unfolding little
little-nil = refl

-- one byte more in front
pub little_step : (s : List ℕ) (j k : ℕ) → j < length s
    → little (take (suc k) (drop j s)) ≡ get_or s j 0 + 256 * little (take k (drop (suc j) s))
unfolding little
little_step s j k h = rw (drop-cons s j 0 h) refl

pub length_digits : (n v : ℕ) → length (digits n v) ≡ n
unfolding digits
length_digits zero v = refl
length_digits (suc n) v = ap suc (length_digits n (v / 256))

pub digits_value : (n v : ℕ) → v < 256 ^ n → little (digits n v) ≡ v
unfolding digits little
digits_value zero v h = omega arith
digits_value (suc n) v h = rw (digits_value n (v / 256) (omega arith)) (omega arith)

-- what is left of the digits after some: the digits of what is left
pub digits-next : (n i v r k : ℕ) → drop i (digits n v) ≡ digits (suc k) r → i < n
    → (get_or (digits n v) i 0 ≡ r % 256) × (drop (suc i) (digits n v) ≡ digits k (r / 256))
unfolding digits
digits-next n i v r k e h =
    let l : i < length (digits n v) = rw (length_digits n v) h in
    let both : get_or (digits n v) i 0 ∷ drop (suc i) (digits n v) ≡ (r % 256) ∷ digits k (r / 256) =
    sym (drop-cons (digits n v) i 0 l) ∙ e in
    (ap (λ (t : List ℕ). get_or t 0 0) both, ap (λ (t : List ℕ). drop 1 t) both)

-- ---- lists of bytes
pub data Bytes : List ℕ → Type 0 where
  no_bytes : Bytes []
  more_bytes : {b : ℕ} {bs : List ℕ} → b < 256 → Bytes bs → Bytes (b ∷ bs)

pub bytes-append : {a b : List ℕ} → Bytes a → Bytes b → Bytes (a ++ b)
bytes-append no_bytes k = k
bytes-append (more_bytes h t) k = more_bytes h (bytes-append t k)

pub bytes-digits : (n v : ℕ) → Bytes (digits n v)
unfolding digits
bytes-digits zero v = no_bytes
bytes-digits (suc n) v = let h : v % 256 < 256 = omega arith in more_bytes h (bytes-digits n (v / 256))

pub bytes_take : (n : ℕ) {l : List ℕ} → Bytes l → Bytes (take n l)
bytes_take zero h = no_bytes
bytes_take (suc n) no_bytes = no_bytes
bytes_take (suc n) (more_bytes h t) = more_bytes h (bytes_take n t)

pub bytes_drop : (n : ℕ) {l : List ℕ} → Bytes l → Bytes (drop n l)
bytes_drop zero h = h
bytes_drop (suc n) no_bytes = no_bytes
bytes_drop (suc n) (more_bytes h t) = bytes_drop n t

pub bytes-get_d : {l : List ℕ} → Bytes l → (i : ℕ) → get_or l i 0 < 256
bytes-get_d no_bytes i = omega arith
bytes-get_d (more_bytes h t) zero = h
bytes-get_d (more_bytes h t) (suc i) = bytes-get_d t i

pub bytes-put : {l bs : List ℕ} (at : ℕ) → Bytes l → Bytes bs → Bytes (put l at bs)
bytes-put {bs = bs} at h k = bytes-append (bytes-append (bytes_take at h) k) (bytes_drop (at + length bs) h)

pub little-below : (n : ℕ) {l : List ℕ} → Bytes l → length l ≤ n → little l < 256 ^ n
unfolding little
little-below zero no_bytes h = omega arith
little-below zero (more_bytes b t) h = absurd (omega arith)
little-below (suc n) no_bytes h = omega (arith, little-below n no_bytes (omega arith))
little-below (suc n) (more_bytes b t) h = omega (arith, little-below n t (le_of_suc-le-suc h))

pub word_below : (n : ℕ) {l : List ℕ} (at : ℕ) → Bytes l → word_at n l at < 256 ^ n
unfolding word_at
word_below n {l} at h = little-below n (bytes_take n (bytes_drop at h)) (omega (arith, length-take n (drop at l)))

pub digits-little : {l : List ℕ} → Bytes l → digits (length l) (little l) ≡ l
unfolding digits little
digits-little no_bytes = refl
digits-little (more_bytes {b} {bs} h t) =
    let low : (b + 256 * little bs) % 256 ≡ b = omega arith in
    let high : (b + 256 * little bs) / 256 ≡ little bs = omega arith in
    rw (low, high, digits-little t) refl

-- ---- a part after a put
first-drop : (l : List ℕ) (i : ℕ) → get_or l i 0 ≡ get_or (drop i l) 0 0
first-drop l i = sym (get_or-drop i l 0 0 ∙ ap (λ (n : ℕ). get_or l n 0) (add-zero i))

module _ (l bs : List ℕ) (at : ℕ) (room : at + length bs ≤ length l) where
  pub length-put : length (put l at bs) ≡ length l
  length-put = simp (length-append, length-drop, length-take) (omega arith)

  front : length (take at l) ≡ at
  front = length-take-le at l (omega arith)

  pub part-put-same : part (length bs) (put l at bs) at ≡ bs
  part-put-same =
      rw (append_assoc, drop_at (take at l) (bs ++ drop (at + length bs) l) at front)
      (take_at bs (drop (at + length bs) l) (length bs) refl)

  head-length : length (take at l ++ bs) ≡ at + length bs
  head-length = length-append (take at l) bs ∙ ap (λ (k : ℕ). k + length bs) front

  pub drop-put : (j : ℕ) → at + length bs ≤ j → drop j (put l at bs) ≡ drop j l
  drop-put j h =
      let k : ℕ = j - (at + length bs) in
      let e : j ≡ at + length bs + k = omega arith in
      let f : length (take at l ++ bs) + k ≡ j = omega (arith, head-length) in
      ap (λ (n : ℕ). drop n (put l at bs)) (sym f) ∙ drop-append-add (take at l ++ bs) (drop (at + length bs) l) k
      ∙ drop-drop k (at + length bs) l ∙ ap (λ (n : ℕ). drop n l) (sym e)

  pub part-put-after : (m j : ℕ) → at + length bs ≤ j → part m (put l at bs) j ≡ part m l j
  part-put-after m j h = ap (take m) (drop-put j h)

  pub part-put-before : (m j : ℕ) → j + m ≤ at → part m (put l at bs) j ≡ part m l j
  part-put-before m j h =
      let p : List ℕ = take at l in
      let jl : j ≤ length p = omega (arith, front) in
      let ml : m ≤ length (drop j p) = simp length-drop (omega (arith, front)) in
      let whole : take m (drop j l) ≡ take m (drop j p) =
      ap (λ (t : List ℕ). take m (drop j t)) (sym (take-append-drop at l))
      ∙ ap (take m) (drop-append-le j p (drop at l) jl) ∙ take-append-le m (drop j p) (drop at l) ml in
      rw append_assoc (ap (take m) (drop-append-le j p (bs ++ drop (at + length bs) l) jl)
      ∙ take-append-le m (drop j p) (bs ++ drop (at + length bs) l) ml ∙ sym whole)

  pub part-put-in : (m k : ℕ) → k + m ≤ length bs → part m (put l at bs) (at + k) ≡ part m bs k
  part-put-in m k h =
      let p : List ℕ = take at l in
      let e : at + k ≡ length p + k = omega (arith, front) in
      let kl : k ≤ length bs = omega arith in
      let ml : m ≤ length (drop k bs) = simp length-drop (omega arith) in
      rw (
        append_assoc,
        e,
        drop-append-add p (bs ++ drop (at + length bs) l) k,
        drop-append-le k bs (drop (at + length bs) l) kl,
      ) (take-append-le m (drop k bs) (drop (at + length bs) l) ml)

  pub get_d-put-before : (i : ℕ) → i < at → get_or (put l at bs) i 0 ≡ get_or l i 0
  get_d-put-before i h =
      let p : i < length (take at l) = omega (arith, front) in
      rw append_assoc (get_or-append (take at l) (bs ++ drop (at + length bs) l) 0 i p ∙ get_or-take at l i 0 h)

  pub get_d-put-in : (i : ℕ) → i < length bs → get_or (put l at bs) (at + i) 0 ≡ get_or bs i 0
  get_d-put-in i h =
      let e : at + i ≡ length (take at l) + i = omega (arith, front) in
      rw (append_assoc, e) (get_or-append-add (take at l) (bs ++ drop (at + length bs) l) i 0
      ∙ get_or-append bs (drop (at + length bs) l) 0 i h)

  pub get_d-put-after : (i : ℕ) → at + length bs ≤ i → get_or (put l at bs) i 0 ≡ get_or l i 0
  get_d-put-after i h =
      first-drop (put l at bs) i ∙ ap (λ (t : List ℕ). get_or t 0 0) (drop-put i h) ∙ sym (first-drop l i)

  -- places that a put leaves alone: n from a on, all before it or all after it
  pub get_d-put-apart : (a n k : ℕ) → (a + n ≤ at) ⊎ (at + length bs ≤ a) → k < n
      → get_or (put l at bs) (a + k) 0 ≡ get_or l (a + k) 0
  get_d-put-apart a n k r h = ⊎_elim (λ b. get_d-put-before (a + k) (low b)) (λ b. get_d-put-after (a + k) (high b)) r
    where
      low : a + n ≤ at → a + k < at
      low b = omega arith

      high : at + length bs ≤ a → at + length bs ≤ a + k
      high b = omega arith

  pub word-put-apart : (a n k m : ℕ) → (a + n ≤ at) ⊎ (at + length bs ≤ a) → k + m ≤ n
      → word_at m (put l at bs) (a + k) ≡ word_at m l (a + k)
  unfolding word_at
  word-put-apart a n k m r h =
      ⊎_elim (λ b. ap little (part-put-before m (a + k) (low b)))
      (λ b. ap little (part-put-after m (a + k) (high b))) r
    where
      low : a + n ≤ at → a + k + m ≤ at
      low b = omega arith

      high : at + length bs ≤ a → at + length bs ≤ a + k
      high b = omega arith

-- a put behind a put is one put
pub put-put : (l bs cs : List ℕ) (at : ℕ) → at + length bs + length cs ≤ length l
    → put (put l at bs) (at + length bs) cs ≡ put l at (bs ++ cs)
put-put l bs cs at room =
    let n : ℕ = at + length bs in
    let r : n ≤ length l = omega arith in
    let head : length (take at l ++ bs) ≡ n = head-length l bs at r in
    let all : n + length cs ≡ at + length (bs ++ cs) = omega (arith, length-append bs cs) in
    let front-is : take n (put l at bs) ≡ take at l ++ bs = take_at (take at l ++ bs) (drop n l) n head in
    let back_is : drop (n + length cs) (put l at bs) ≡ drop (n + length cs) l =
    drop-put l bs at r (n + length cs) (omega arith) in
    rw (front-is, back_is, all)
    (ap (λ (t : List ℕ). t ++ drop (at + length (bs ++ cs)) l) (append_assoc (take at l) bs cs))

-- ---- words
module _ (l : List ℕ) (at n v : ℕ) (room : at + n ≤ length l) where
  fitting : at + length (digits n v) ≤ length l
  fitting = rw (length_digits n v) room

  pub length-put-word : length (put l at (digits n v)) ≡ length l
  length-put-word = length-put l (digits n v) at fitting

  pub word-put-same : v < 256 ^ n → word_at n (put l at (digits n v)) at ≡ v
  unfolding word_at
  word-put-same h =
      ap little (ap (λ (k : ℕ). part k (put l at (digits n v)) at) (sym (length_digits n v))
      ∙ part-put-same l (digits n v) at fitting) ∙ digits_value n v h

  pub word-put-before : (m j : ℕ) → j + m ≤ at → word_at m (put l at (digits n v)) j ≡ word_at m l j
  unfolding word_at
  word-put-before m j h = ap little (part-put-before l (digits n v) at fitting m j h)

  pub word-put-after : (m j : ℕ) → at + n ≤ j → word_at m (put l at (digits n v)) j ≡ word_at m l j
  unfolding word_at
  word-put-after m j h = ap little (part-put-after l (digits n v) at fitting m j (rw (length_digits n v) h))

-- ---- loops that write and read a word byte by byte
pub paste-word : (l : List ℕ) (at n v : ℕ) → paste l at (digits n v) n ≡ put l at (digits n v)
paste-word l at n v = rw (take_all n (digits n v) (omega (arith, length_digits n v)), length_digits n v)

pub write-more : (l d : List ℕ) (at n v r i : ℕ) → at + n ≤ length l → i < n → d ≡ paste l at (digits n v) i
    → drop i (digits n v) ≡ digits (n - i) r
    → (set d (at + i) (r % 256) ≡ paste l at (digits n v) (i + 1))
    × (drop (i + 1) (digits n v) ≡ digits (n - (i + 1)) (r / 256))
write-more l d at n v r i room h e f =
    let k : n - i ≡ suc (n - (i + 1)) = omega arith in
    let next = digits-next n i v r (n - (i + 1)) (rw k at f) h in
    let inside : at + i < length l = omega arith in
    let there : i < length (digits n v) = rw (length_digits n v) h in (
      rw (e, add-one i, ← next.0) (paste-suc l at (digits n v) i 0 inside there),
      rw (add-one i) (rw (add-one i) at next.1),
    )

pub read_more : (s : List ℕ) (at n i v : ℕ) → at + n ≤ length s → 0 < i → i ≤ n → v ≡ little (part (n - i) s (at + i))
    → v * 256 + get_or s (at + (i - 1)) 0 ≡ little (part (n - (i - 1)) s (at + (i - 1)))
read_more s at n i v room p h e =
    let j : ℕ = at + (i - 1) in
    let k : n - (i - 1) ≡ suc (n - i) = omega arith in
    let m : at + i ≡ suc j = omega arith in
    let l : j < length s = omega arith in
    let f : v ≡ little (take (n - i) (drop (suc j) s)) = rw m at e in
    rw k (rw (little_step s j (n - i) l) (rw (← f) (omega arith)))

-- ---- signed numbers
pub range-fits : (z : ℤ) → in_range z ≡ true → SFits w64 z
range-fits (pos n) e = record { sfits = ltb-true n (2 ^ 63) e }
range-fits (negsuc n) e = record { sfits = ltb-true n (2 ^ 63) e }

pub fits-range : (z : ℤ) → SFits w64 z → in_range z ≡ true
fits-range (pos n) h = lt-ltb n (2 ^ 63) h.sfits
fits-range (negsuc n) h = lt-ltb n (2 ^ 63) h.sfits

pub integer-value : (z : ℤ) → in_range z ≡ true → to_z w64 (little (integer_bytes z)) ≡ z
integer-value z e =
    let f : SFits w64 z = range-fits z e in
    ap (to_z w64) (digits_value 8 (of_z w64 z) (Fits-of_z f).fits) ∙ to_z-of_z f

pub integer-put-same : (l : List ℕ) (at : ℕ) (z : ℤ) → at + 8 ≤ length l → in_range z ≡ true
    → integer_at (put l at (integer_bytes z)) at ≡ z
integer-put-same l at z room e =
    let f : SFits w64 z = range-fits z e in
    ap (to_z w64) (word-put-same l at 8 (of_z w64 z) room (Fits-of_z f).fits) ∙ to_z-of_z f

-- whatever eight bytes hold is a signed 64-bit number
pub integer-range : (n : ℕ) → in_range (to_z w64 n) ≡ true
integer-range n = pick (ltb n (2 ^ 63)) refl
  where
    pick : (b : Bool) → ltb n (2 ^ 63) ≡ b → in_range (sel b (pos n) (negsuc (2 ^ 64 - suc n))) ≡ true
    pick true e = e
    pick false e = lt-ltb (2 ^ 64 - suc n) (2 ^ 63) (omega (arith, ltb-false n (2 ^ 63) e))
