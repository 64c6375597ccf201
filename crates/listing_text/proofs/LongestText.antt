-- How long lines and listings are at most.
use Prim.Native.Nat.{ℕ, suc, ◌+◌, ◌*◌, ◌^◌, ◌≤◌, ◌<◌}
use native.Mathlib.Omega.{arith}
use native.Mathlib.Nat.{lt_of_lt_of_le, lt_of_le_of_lt}
use mathlib.Core.Path.{◌≡◌, refl, ap, ◌∙◌}
use mathlib.Core.Bool.{true}
use mathlib.Core.List.{List, [], ◌∷◌, ◌++◌}
use lib.Dec.{lit<}
use lib.IntN.{ℤ, pos, negsuc}
use lib.ListN.{length, length-append}
use Rattle.rules.specs.Records.{Record}
use Rattle.rules.specs.Numbers.{in_range}
use Rattle.rules.specs.Listing.{natural, integer, record_line, record_lines}
use Rattle.rules.proofs.Lists.WordLaws.{range-fits}
use Rattle.rules.proofs.Translation.RecordBytes.{FitsRecord, AllFit}
use Rattle.listing_text.specs.Text.{spaced, three, head_text, children_text, literal_text, refusal_line, longest_line}
use Rattle.listing_text.proofs.DigitLaws.{length_most, length-below}
use Rattle.listing_text.proofs.WriteLaws.{record-text, refusal-text}

length-spaced : (w : List ℕ) → length (spaced w) ≡ suc (length w)
length-spaced w = length-append w (32 ∷ []) ∙ omega arith

length_three : (x y z : ℕ)
    → length (three x y z) ≡ length (natural x) + length (natural y) + length (natural z) + 3
length_three x y z =
    length-append (spaced (natural x) ++ spaced (natural y)) (spaced (natural z))
    ∙ omega (
      arith,
      length-append (spaced (natural x)) (spaced (natural y)),
      length-spaced (natural x),
      length-spaced (natural y),
      length-spaced (natural z),
    )

-- "a signed 64-bit literal": a sign and 19 digits
length-integer : (z : ℤ) → in_range z ≡ true → length (integer z) ≤ 20
length-integer (pos n) h =
    let small : n < 10 ^ 19 = lt_of_lt_of_le (range-fits (pos n) h).sfits (lit< tt) in
    omega (arith, length-below 20 18 n small)
length-integer (negsuc n) h =
    let small : suc n < 10 ^ 19 = lt_of_le_of_lt (range-fits (negsuc n) h).sfits (lit< tt) in
    omega (arith, length-below 20 18 (suc n) small)

length-line : (n : ℕ) (r : Record) → n < 10000 → FitsRecord r → length (record_line n r) ≤ longest_line
length-line n r h f =
    let front : List ℕ = head_text n r ++ children_text r in
    omega (
      arith,
      ap length (record-text n r),
      length-append front (literal_text r),
      length-append (head_text n r) (children_text r),
      length-append (integer r.literal) (10 ∷ []),
      length_three n r.kind r.mark,
      length_three r.a r.b r.c,
      length-below 20 3 n h,
      length-below 20 2 r.kind (omega (arith, f.kind_fits)),
      length-below 20 2 r.mark (omega (arith, f.mark-fits)),
      length-below 20 4 r.a (omega (arith, f.a-fits)),
      length-below 20 4 r.b (omega (arith, f.b-fits)),
      length-below 20 4 r.c (omega (arith, f.c-fits)),
      length-integer r.literal f.literal-fits,
    )

lines_cons : (n : ℕ) (r : Record) (rs : List Record) → record_lines n (r ∷ rs) ≡ record_line n r ++ record_lines (suc n) rs
unfolding record_lines
lines_cons n r rs = refl

lines-nil : (n : ℕ) → record_lines n [] ≡ []
unfolding record_lines
lines-nil n = refl

pub length-lines : (n : ℕ) (rs : List Record) → n + length rs ≤ 10000 → AllFit rs
    → length (record_lines n rs) ≤ length rs * longest_line
length-lines n [] h f = omega (arith, ap length (lines-nil n))
length-lines n (r ∷ rs) h f =
    omega (
      arith,
      ap length (lines_cons n r rs),
      length-append (record_line n r) (record_lines (suc n) rs),
      length-line n r (omega arith) f.0,
      length-lines (suc n) rs (omega arith) f.1,
    )

pub length-refusal : (k n : ℕ) → length (refusal_line k n) ≤ longest_line
length-refusal k n =
    omega (
      arith,
      ap length (refusal-text k n),
      length-append (spaced (natural k) ++ natural n) (10 ∷ []),
      length-append (spaced (natural k)) (natural n),
      length-spaced (natural k),
      length_most 20 k,
      length_most 20 n,
    )
