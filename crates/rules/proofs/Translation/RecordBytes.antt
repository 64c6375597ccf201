-- The bytes of a table: how many they are, and that each record is read back from them.
use Prim.Native.Nat.{ℕ, zero, suc, ◌+◌, ◌-◌, ◌*◌, ◌^◌, ◌≤◌, ◌<◌}
use native.Mathlib.Omega.{arith}
use native.Mathlib.Nat.{add-zero}
use mathlib.Core.Path.{◌≡◌, refl, ap, ◌∙◌}
use mathlib.Core.Bool.{true}
use mathlib.Core.List.{List, [], ◌∷◌, ◌++◌}
use lib.IntN.{ℤ, pos}
use lib.ListN.{length, get_or, take, length-append}
use lib.Seq.{get_or-append-add, drop-append-add, take_at}
use mir.Syntax.{w64}
use mir.Val.{to_z, of_z}
use mir.Facts.{to_z-of_z, Fits-of_z}
use Rattle.rules.specs.Words.{little, digits, integer_bytes, word_at, flat}
use Rattle.rules.specs.Records.{Record, record_count, start, record_at, record_bytes, table_bytes}
use Rattle.rules.specs.Numbers.{in_range}
pub use Rattle.rules.proofs.Lists.WordLaws.{length_digits, digits_value, bytes-digits}
use Rattle.rules.proofs.Lists.WordLaws.{length_digits, digits_value, Bytes, no_bytes, more_bytes, bytes-digits}
use Rattle.rules.proofs.Lists.WordLaws.{bytes-get_d, range-fits}
use Rattle.rules.proofs.Lists.WordLaws as words

-- ---- numbers in bytes
pub word-front : (n v : ℕ) (rest : List ℕ) → v < 256 ^ n → word_at n (digits n v ++ rest) 0 ≡ v
unfolding word_at
word-front n v rest h = ap little (take_at (digits n v) rest n (length_digits n v)) ∙ digits_value n v h

pub word_after : (n : ℕ) (front l : List ℕ) (i : ℕ) → word_at n (front ++ l) (length front + i) ≡ word_at n l i
unfolding word_at
word_after n front l i = ap (λ (r : List ℕ). little (take n r)) (drop-append-add front l i)

pub integer-fits : (z : ℤ) → in_range z ≡ true → of_z w64 z < 256 ^ 8
integer-fits z h = (Fits-of_z (range-fits z h)).fits

pub integer-back : (z : ℤ) → in_range z ≡ true → to_z w64 (of_z w64 z) ≡ z
integer-back z h = to_z-of_z (range-fits z h)

-- ---- a record
pub record FitsRecord (r : Record) : Type 0 where
  pub kind_fits : r.kind < 256
  pub mark-fits : r.mark < 256
  pub a-fits : r.a < 65536
  pub b-fits : r.b < 65536
  pub c-fits : r.c < 65536
  pub literal-fits : in_range r.literal ≡ true

pub length-record : (r : Record) → length (record_bytes r) ≡ 16
unfolding digits
length-record r = refl

pub record-front : (r : Record) (rest : List ℕ) → FitsRecord r → record_at (record_bytes r ++ rest) 1 ≡ r
unfolding digits word_at
record-front r rest h =
    λ i. record {
      kind = r.kind;
      mark = r.mark;
      a = word-front 2 r.a [] h.a-fits i;
      b = word-front 2 r.b [] h.b-fits i;
      c = word-front 2 r.c [] h.c-fits i;
      literal = (ap (to_z w64) (word-front 8 (of_z w64 r.literal) [] (integer-fits r.literal h.literal-fits))
          ∙ integer-back r.literal h.literal-fits) i;
    }

-- a record behind the first
module _ (front l : List ℕ) (n : ℕ) (e : length front ≡ 16) where
  place_after : (i : ℕ) → start (suc (suc n)) + i ≡ length front + (start (suc n) + i)
  place_after i = omega arith

  byte-after : (i : ℕ) → get_or (front ++ l) (start (suc (suc n)) + i) 0 ≡ get_or l (start (suc n) + i) 0
  byte-after i = rw (place_after i) (get_or-append-add front l (start (suc n) + i) 0)

  field-after : (w i : ℕ) → word_at w (front ++ l) (start (suc (suc n)) + i) ≡ word_at w l (start (suc n) + i)
  field-after w i = rw (place_after i) (word_after w front l (start (suc n) + i))

  pub record-after : record_at (front ++ l) (suc (suc n)) ≡ record_at l (suc n)
  record-after =
      λ i. record {
        kind = simp add-zero at (byte-after 0) i;
        mark = byte-after 1 i;
        a = field-after 2 2 i;
        b = field-after 2 4 i;
        c = field-after 2 6 i;
        literal = to_z w64 (field-after 8 8 i);
      }

-- ---- a table
abbrev pub AllFit : List Record → Type 0
AllFit [] = Unit {0}
AllFit (r ∷ rs) = FitsRecord r × AllFit rs

pub all_append : (rs ss : List Record) → AllFit rs → AllFit ss → AllFit (rs ++ ss)
all_append [] ss h k = k
all_append (r ∷ rs) ss h k = (h.0, all_append rs ss h.1 k)

pub table-length : (rs : List Record) → length (table_bytes rs) ≡ 16 * length rs
unfolding flat
table-length [] = refl
table-length (r ∷ rs) = length-append (record_bytes r) (table_bytes rs) ∙ omega (arith, length-record r, table-length rs)

pub table-count : (rs : List Record) → record_count (table_bytes rs) ≡ length rs
table-count rs = rw (table-length rs) (omega arith)

abbrev pub no_record : Record
no_record = record { kind = 0; mark = 0; a = 0; b = 0; c = 0; literal = pos 0 }

pub table-record : (rs : List Record) (i : ℕ) → AllFit rs → i < length rs
    → record_at (table_bytes rs) (suc i) ≡ get_or rs i no_record
unfolding flat
table-record [] i h l = absurd (omega arith)
table-record (r ∷ rs) zero h l = record-front r (table_bytes rs) h.0
table-record (r ∷ rs) (suc i) h l =
    record-after (record_bytes r) (table_bytes rs) i (length-record r) ∙ table-record rs i h.1 (omega arith)

-- records are numbered from 1
pub table-record-at : (rs : List Record) (n : ℕ) → AllFit rs → 1 ≤ n → n ≤ length rs
    → record_at (table_bytes rs) n ≡ get_or rs (n - 1) no_record
table-record-at rs zero h low high = absurd (omega arith)
table-record-at rs (suc i) h low high = table-record rs i h high ∙ ap (λ (j : ℕ). get_or rs j no_record) (omega arith)

-- ---- every byte is below 256
abbrev pub AllBytes : List ℕ → Type 0
AllBytes bs = Bytes bs

pub bytes-append : (bs cs : List ℕ) → AllBytes bs → AllBytes cs → AllBytes (bs ++ cs)
bytes-append bs cs h k = words.bytes-append h k

pub bytes-record : (r : Record) → FitsRecord r → AllBytes (record_bytes r)
bytes-record r h =
    let a : List ℕ = digits 2 r.a in
    let b : List ℕ = digits 2 r.b in
    let c : List ℕ = digits 2 r.c in
    more_bytes h.kind_fits (more_bytes h.mark-fits
    (bytes-append (a ++ b ++ c) (integer_bytes r.literal)
    (bytes-append (a ++ b) c (bytes-append a b (bytes-digits 2 r.a) (bytes-digits 2 r.b))
    (bytes-digits 2 r.c))
    (bytes-digits 8 (of_z w64 r.literal))))

pub bytes-table : (rs : List Record) → AllFit rs → AllBytes (table_bytes rs)
unfolding flat
bytes-table [] h = no_bytes
bytes-table (r ∷ rs) h = bytes-append (record_bytes r) (table_bytes rs) (bytes-record r h.0) (bytes-table rs h.1)

pub byte_small : (bs : List ℕ) (i : ℕ) → AllBytes bs → get_or bs i 0 < 256
byte_small bs i h = bytes-get_d h i
