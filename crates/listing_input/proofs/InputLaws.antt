-- What is kept of an input has the whole input's listing.
use Prim.Native.Nat.{ℕ, ◌+◌, ◌%◌, ◌≤◌, ◌<◌}
use native.Mathlib.Omega.{arith}
use native.Mathlib.Decide.{ℕ_discrete, dec_lt}
use mathlib.Core.Path.{◌≡◌, refl, sym, ap, ◌∙◌}
use mathlib.Core.List.{List, []}
use borrow.Author.Tests.{lt-ltb, le-ltb}
use lib.ListN.{length, take}
use lib.Seq.{length-take-le}
use Rattle.rules.specs.Kinds.{source}
use Rattle.rules.specs.Listing.{listing}
use Rattle.checker.proofs.OrderLaws.{check-uneven, check-many}
use Rattle.listing_input.specs.Input.{too_many, kept_length, Kept}
use Rattle.listing_text.specs.Text.{refusal_line}
use Rattle.listing_text.proofs.ListedLaws.{refused-listing}

-- ---- the length
pub kept-below : (n : ℕ) → n < too_many → kept_length n ≡ n
kept-below n h = rw (lt-ltb n too_many h, kept_length)

pub kept_above : (n : ℕ) → too_many ≤ n → kept_length n ≡ too_many + n % 16
kept_above n h = rw (le-ltb n too_many h, kept_length)

kept-short : (n : ℕ) → n ≤ too_many → kept_length n ≡ n
kept-short n h = go (dec_lt n too_many)
  where
    go : Dec (n < too_many) → kept_length n ≡ n
    go (yes k) = kept-below n k
    go (no k) = omega (arith, kept_above n (omega arith))

-- before anything is read
pub kept-start : (l : List ℕ) → Kept [] l 0
kept-start l = record { counted = sym (kept-below 0 (omega arith)); bytes = λ h. refl }

-- ---- the listing: too many records, or a length that is no multiple of 16
pub long-listing : (s t : List ℕ) → too_many ≤ length s → too_many ≤ length t → length s % 16 ≡ length t % 16
    → listing s ≡ listing t
long-listing s t h k e = go (ℕ_discrete (length t % 16) 0)
  where
    many : (u : List ℕ) → too_many ≤ length u → length u % 16 ≡ 0 → refusal_line 2 0 ≡ listing u
    many u l d = refused-listing u _ (sym (check-many source u (λ z. omega arith) d (omega arith)))

    uneven : (u : List ℕ) → too_many ≤ length u → (length u % 16 ≡ 0 → ⊥) → refusal_line 1 0 ≡ listing u
    uneven u l d = refused-listing u _ (sym (check-uneven source u (λ z. omega arith) d))

    go : Dec (length t % 16 ≡ 0) → listing s ≡ listing t
    go (yes d) = sym (many s h (e ∙ d)) ∙ many t k d
    go (no d) = sym (uneven s h (λ z. d (sym e ∙ z))) ∙ uneven t k d

pub kept-listing : (w l : List ℕ) (count : ℕ) → 4128 ≤ length l → Kept w l count → listing (take count l) ≡ listing w
kept-listing w l count room k = go (dec_lt too_many (length w))
  where
    go : Dec (too_many < length w) → listing (take count l) ≡ listing w
    go (no h) =
        let short : length w ≤ too_many = omega arith in
        let same : count ≡ length w = k.counted ∙ kept-short (length w) short in
        ap listing (ap (λ (n : ℕ). take n l) same ∙ k.bytes short)
    go (yes h) =
        let long : count ≡ too_many + length w % 16 = k.counted ∙ kept_above (length w) (omega arith) in
        let size : length (take count l) ≡ count = length-take-le count l (omega arith) in
        long-listing (take count l) w (omega arith) (omega arith) (omega arith)
