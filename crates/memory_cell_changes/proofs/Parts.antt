-- The bytes of a cell are those of two numbers, one behind the other: the first is laid out as a block record is.
use Prim.Native.Nat.{ℕ, ◌+◌, ◌≤◌}
use native.Mathlib.Omega.{arith}
use mathlib.Core.Path.{◌≡◌, refl, ap, ◌∙◌}
use mathlib.Core.List.{List, ◌++◌}
use lib.IntN.{ℤ}
use lib.ListN.{length}
use mir.Syntax.{w64}
use mir.Val.{of_z}
use Rattle.rules.specs.Words.{digits, put, integer_bytes}
use Rattle.rules.specs.Layout.{block_record, cell_record}
use Rattle.rules.proofs.Lists.WordLaws.{put-put, length_digits}
use Rattle.rules.proofs.Lists.RecordLaws.{length-record}

head-number : (k o n : ℕ) (z : ℤ) → block_record k o n ++ integer_bytes z ≡ cell_record k o n z
unfolding digits
head-number k o n z = refl

pub parts-put : (l : List ℕ) (at k o n : ℕ) (z : ℤ) → at + 16 ≤ length l
    → put (put l at (block_record k o n)) (at + 8) (integer_bytes z) ≡ put l at (cell_record k o n z)
parts-put l at k o n z room =
    let w : List ℕ = block_record k o n in
    let e : at + 8 ≡ at + length w = omega (arith, length-record k o n) in
    ap (λ (j : ℕ). put (put l at w) j (integer_bytes z)) e
    ∙ put-put l w (integer_bytes z) at (omega (arith, length-record k o n, length_digits 8 (of_z w64 z)))
    ∙ ap (put l at) (head-number k o n z)
