-- Numbers in bytes. "Everything is little-endian, both memories and inputs too".
use Rattle.std.specs.Prelude.{ℕ, zero, suc, ◌+◌, ◌*◌, ◌/◌, ◌%◌, List, [], ◌∷◌, ◌++◌, ℤ, length, take, drop}
use Rattle.std.specs.Int.{w64}
use Rattle.std.proofs.Common.{to_z, of_z}

-- the number that bytes are, lowest byte first
unfoldable pub little : List ℕ → ℕ
little [] = 0
little (b ∷ bs) = b + 256 * little bs

-- the n low bytes of a number
unfoldable pub digits : ℕ → ℕ → List ℕ
digits zero v = []
digits (suc n) v = (v % 256) ∷ digits n (v / 256)

-- n bytes from a place on, and bytes put over those at a place
abbrev pub part : ℕ → List ℕ → ℕ → List ℕ
part n l at = take n (drop at l)

abbrev pub put : List ℕ → ℕ → List ℕ → List ℕ
put l at bs = take at l ++ bs ++ drop (at + length bs) l

-- the number in n bytes at a place
unfoldable pub word_at : ℕ → List ℕ → ℕ → ℕ
word_at n l at = little (part n l at)

-- a signed 64-bit number, in two's complement
abbrev pub integer_at : List ℕ → ℕ → ℤ
integer_at l at = to_z w64 (word_at 8 l at)

abbrev pub integer_bytes : ℤ → List ℕ
integer_bytes z = digits 8 (of_z w64 z)

-- f at s, s + 1, ..: n of them
unfoldable pub tabulate : {A : Type 0} → ℕ → ℕ → (ℕ → A) → List A
tabulate s zero f = []
tabulate s (suc n) f = f s ∷ tabulate (suc s) n f

-- the bytes of each, one after the other
unfoldable pub flat : {A : Type 0} → (A → List ℕ) → List A → List ℕ
flat f [] = []
flat f (x ∷ xs) = f x ++ flat f xs
