-- What sixteen bytes written over a temporary's make of the temporaries.
use Prim.Native.Nat.{ℕ, ◌+◌, ◌*◌, ◌/◌, ◌≤◌, ◌<◌}
use native.Mathlib.Nat.{add-zero}
use native.Mathlib.Omega.{arith}
use mathlib.Core.List.{List, ◌++◌}
use mathlib.Core.Logic.{◌≢◌, ◌⊎◌}
use mathlib.Core.Path.{◌≡◌, sym, ap, ◌∙◌}
use lib.IntN.{ℤ}
use lib.ListN.{length, get_or, set, length-append}
use mir.Syntax.{w64}
use mir.Val.{SFits, to_z, of_z}
use Rattle.rules.specs.Sizes.{temporary_count}
use Rattle.rules.specs.Words.{little, digits, part, put, word_at, integer_bytes}
use Rattle.rules.specs.Layout.{cell_from}
use Rattle.rules.proofs.Lists.WordLaws.{length_digits, part-put-in, get_d-put-in, get_d-put-apart, word-put-apart}
use Rattle.rules.proofs.Lists.WordLaws.{put-put}
use Rattle.rules.proofs.Lists.WordLaws.{fits-range, integer-value}
use Rattle.rules.proofs.Lists.Rows.{tabulate-set}
use Rattle.evaluation_temporaries.specs.Bytes.{temporary_in, temporary_place, temporaries_length, temporary_at}
use Rattle.evaluation_temporaries.specs.Bytes.{temporaries_of}
use Rattle.memory_cells.proofs.Apart.{rows_apart}

-- a kind in byte 0 and a name in bytes 4 and 5, as one word
abbrev pub head : ℕ → ℕ → ℕ
head k w = k + w * 4294967296

abbrev bytes : ℕ → ℕ → ℤ → List ℕ
bytes k w z = digits 8 (head k w) ++ integer_bytes z

length-bytes : (k w : ℕ) (z : ℤ) → length (bytes k w z) ≡ 16
length-bytes k w z =
    length-append (digits 8 (head k w)) (integer_bytes z)
    ∙ omega (arith, length_digits 8 (head k w), length_digits 8 (of_z w64 z))

first_byte : (k w : ℕ) (z : ℤ) → k < 256 → w < 65536 → get_or (bytes k w z) 0 0 ≡ k
unfolding digits
first_byte k w z a b = omega arith

name-bytes : (k w : ℕ) (z : ℤ) → k < 256 → w < 65536 → little (part 2 (bytes k w z) 4) ≡ w
unfolding digits little
name-bytes k w z a b =
    let h : ℕ = head k w in
    let x : h / 256 / 256 ≡ w * 65536 = omega arith in
    let y : h / 256 / 256 / 256 / 256 ≡ w = omega arith in
    rw y (omega arith)

number-bytes : (k w : ℕ) (z : ℤ) → SFits w64 z → to_z w64 (little (part 8 (bytes k w z) 8)) ≡ z
unfolding digits
number-bytes k w z f = integer-value z (fits-range z f)

module _ (l : List ℕ) (n k w : ℕ) (z : ℤ) (room : length l ≡ temporaries_length) (h : n < temporary_count) where
  all_room : temporary_place n + length (bytes k w z) ≤ length l
  all_room = rw (length-bytes k w z) (omega arith)

  written : List ℕ
  written = put l (temporary_place n) (bytes k w z)

  same : k < 256 → w < 65536 → SFits w64 z → temporary_at written n ≡ temporary_in (cell_from k 0 w z)
  unfolding temporary_at written word_at
  same a b f =
      let at : ℕ = temporary_place n in
      let c : get_or written at 0 ≡ k =
      ap (λ (i : ℕ). get_or written i 0) (sym (add-zero at))
      ∙ get_d-put-in l (bytes k w z) at all_room 0 (omega (arith, length-bytes k w z)) ∙ first_byte k w z a b in
      let d : little (part 2 written (at + 4)) ≡ w =
      ap little (part-put-in l (bytes k w z) at all_room 2 4 (omega (arith, length-bytes k w z)))
      ∙ name-bytes k w z a b in
      let e : to_z w64 (little (part 8 written (at + 8))) ≡ z =
      ap (λ (t : List ℕ). to_z w64 (little t))
      (part-put-in l (bytes k w z) at all_room 8 8 (omega (arith, length-bytes k w z)))
      ∙ number-bytes k w z f in
      λ i. temporary_in (cell_from (c i) 0 (d i) (e i))

  other : (j : ℕ) → j ≢ n → temporary_at written j ≡ temporary_at l j
  unfolding temporary_at written
  other j d =
      let at : ℕ = temporary_place n in
      let b : (temporary_place j + 16 ≤ at) ⊎ (at + length (bytes k w z) ≤ temporary_place j) =
      rw (length-bytes k w z) (rows_apart 16 n j d) in
      let x : get_or written (temporary_place j) 0 ≡ get_or l (temporary_place j) 0 =
      rw (add-zero (temporary_place j)) at
      (get_d-put-apart l (bytes k w z) at all_room (temporary_place j) 16 0 b (omega arith)) in
      let y = word-put-apart l (bytes k w z) at all_room (temporary_place j) 16 4 2 b (omega arith) in
      let v = word-put-apart l (bytes k w z) at all_room (temporary_place j) 16 8 8 b (omega arith) in
      λ i. temporary_in (cell_from (x i) 0 (y i) (to_z w64 (v i)))

  pub temporary-written : {l₁ l₂ : List ℕ} → k < 256 → w < 65536 → SFits w64 z
      → l₁ ≡ put l (temporary_place n) (digits 8 (head k w)) → l₂ ≡ put l₁ (temporary_place n + 8) (integer_bytes z)
      → temporaries_of l₂ ≡ set (temporaries_of l) n (temporary_in (cell_from k 0 w z))
  unfolding temporaries_of written
  temporary-written a b f p q =
      let at : ℕ = temporary_place n in
      let d = length_digits 8 (head k w) in
      let e : at + length (digits 8 (head k w)) + length (integer_bytes z) ≤ length l =
      omega (arith, d, length_digits 8 (of_z w64 z)) in
      let r : at + 8 ≡ at + length (digits 8 (head k w)) = omega (arith, d) in
      let g =
      q ∙ (λ i. put (p i) (r i) (integer_bytes z))
      ∙ put-put l (digits 8 (head k w)) (integer_bytes z) at e in
      ap temporaries_of g
      ∙ tabulate-set temporary_count n (temporary_at l) (temporary_at written) (temporary_in (cell_from k 0 w z)) h
      (same a b f)
      (λ j x y. other j y)
