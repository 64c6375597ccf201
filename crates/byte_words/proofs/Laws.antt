-- What the chain that reads makes of bytes, and what a turn of the loop that writes makes of digits.
use Prim.Native.Nat.{ℕ, suc, ◌+◌, ◌-◌, ◌*◌, ◌/◌, ◌%◌, ◌^◌, ◌≤◌, ◌<◌}
use native.Mathlib.Numerals.{add-one}
use native.Mathlib.Omega.{arith}
use mathlib.Core.Path.{◌≡◌, refl, sym, ap, ◌∙◌}
use mathlib.Core.List.{List, [], ◌∷◌, ◌++◌, reverse, append_assoc}
use lib.Dec.{lit<}
use lib.ListN.{length, take, drop, get_or, set, length-take}
use lib.Seq.{drop-drop, take_all, take-suc, take-suc-set}
use borrow.Rule.Slice.PartMut.{put_mid}
use Rattle.std.specs.List.{fold, between}
use Rattle.std.specs.Int.RustNames.{bit_or}
use Rattle.std.proofs.lemmas.Nat.{or_shifted, shl_whole}
use Rattle.std.proofs.lemmas.List.{reverse-append}
use Rattle.std.proofs.lemmas.List.Sums.{fold-append}
use Rattle.rules.specs.Words.{little, digits, part, put, word_at}
use Rattle.rules.proofs.Lists.WordLaws.{Bytes, no_bytes, more_bytes, bytes_take, bytes_drop, little-below, word_below}
use Rattle.rules.proofs.Lists.WordLaws.{length_digits, digits-next}

-- ---- reading, from the last byte on
abbrev pub shifted_in : ℕ → ℕ → ℕ
shifted_in v b = bit_or (v * 2 ^ 8 % 2 ^ 64) b

shift_one : (v b : ℕ) → v < 256 ^ 7 → b < 256 → shifted_in v b ≡ b + 256 * v
shift_one v b h k = rw (shl_whole v 56 8 64 h (lit< tt)) (rw (or_shifted v 8 b k) (omega arith))

read_back : {l : List ℕ} → Bytes l → length l ≤ 8 → fold shifted_in 0 (reverse l) ≡ little l
unfolding little
read_back no_bytes h = refl
read_back (more_bytes {b} {bs} k f) h =
    ap (fold shifted_in 0) (reverse-append (b ∷ []) bs)
    ∙ fold-append shifted_in 0 (reverse bs) (b ∷ [])
    ∙ ap (λ (v : ℕ). shifted_in v b) (read_back f (omega arith))
    ∙ shift_one (little bs) b (little-below 7 f (omega arith)) k

bytes : (l : List ℕ) → ((i : ℕ) → get_or l i 0 < 256) → Bytes l
bytes [] f = no_bytes
bytes (b ∷ l) f = more_bytes (f 0) (bytes l (λ i. f (suc i)))

pub word_read : (s : List ℕ) (at n v : ℕ) → n ≤ 8 → ((i : ℕ) → get_or s i 0 < 256)
    → v ≡ fold shifted_in 0 (reverse (between at (at + n) s)) → (v ≡ word_at n s at) × (v < 256 ^ n)
unfolding word_at
word_read s at n v h f e = (value, rw value (word_below n at (bytes s f)))
  where
    same : at + n - at ≡ n
    same = omega arith

    value : v ≡ little (part n s at)
    value =
        rw same at e
        ∙ read_back (bytes_take n (bytes_drop at (bytes s f))) (omega (arith, length-take n (drop at s)))

-- ---- writing, from the lowest byte on
module _ (l : List ℕ) (n v r i : ℕ) (long : length l ≡ n) (h : i < n)
    (f : drop i (digits n v) ≡ digits (n - i) r) where
  next : (get_or (digits n v) i 0 ≡ r % 256) × (drop (suc i) (digits n v) ≡ digits (n - (i + 1)) (r / 256))
  next = let k : n - i ≡ suc (n - (i + 1)) = omega arith in digits-next n i v r (n - (i + 1)) (rw k at f) h

  pub others_more : drop (i + 1) (digits n v) ≡ digits (n - (i + 1)) (r / 256)
  others_more = rw (add-one i) (rw (add-one i) at next.1)

  pub written_more : take i l ≡ take i (digits n v) → take (i + 1) (set l i (r % 256)) ≡ take (i + 1) (digits n v)
  written_more e =
      let inside : i < length l = omega arith in
      let there : i < length (digits n v) = omega (arith, length_digits n v) in
      rw (add-one i)
      (take-suc-set l i (r % 256) inside ∙ ap (λ (t : List ℕ). t ++ (r % 256) ∷ []) e
      ∙ ap (λ (b : ℕ). take i (digits n v) ++ b ∷ []) (sym next.0) ∙ sym (take-suc (digits n v) i 0 there))

pub written : (d l : List ℕ) (at n v k : ℕ) → k ≡ n → length l ≡ n → take n l ≡ take n (digits n v)
    → put_mid at k d l ≡ put d at (digits n v)
written d l at n v k e long t =
    let m = length_digits n v in
    let whole : l ≡ digits n v = sym (take_all n l (omega arith)) ∙ t ∙ take_all n (digits n v) (omega arith) in
    rw (whole, e, drop-drop n at d, m) (sym (append_assoc (take at d) (digits n v) (drop (at + n) d)))

pub ruleset digits_written = (others_more, written_more, written)
