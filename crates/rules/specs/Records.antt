-- "A table is records of 16 bytes without a header, numbered from 1."
use Rattle.std.specs.Prelude.{ℕ, ◌+◌, ◌-◌, ◌*◌, ◌/◌, List, [], ◌∷◌, ◌++◌, ℤ, length, get_or}
use Rattle.rules.specs.Words.{digits, word_at, integer_at, integer_bytes, flat}

-- a record's fields
abbrev pub Record : Type 0
Record = Rattle.rules.specs.declared.Record.Record

-- A, B, C: those of its fields that can be children
abbrev pub fields_of : Record → List ℕ
fields_of r = r.a ∷ r.b ∷ r.c ∷ []

abbrev pub record_count : List ℕ → ℕ
record_count t = length t / 16

-- where record n starts
abbrev pub start : ℕ → ℕ
start n = (n - 1) * 16

-- "Byte 0 is the kind, byte 1 the mark, bytes 2–3, 4–5, 6–7 the children A, B, C"
abbrev pub kind_of : List ℕ → ℕ → ℕ
kind_of t n = get_or t (start n) 0

abbrev pub mark_of : List ℕ → ℕ → ℕ
mark_of t n = get_or t (start n + 1) 0

abbrev pub child_a : List ℕ → ℕ → ℕ
child_a t n = word_at 2 t (start n + 2)

abbrev pub child_b : List ℕ → ℕ → ℕ
child_b t n = word_at 2 t (start n + 4)

abbrev pub child_c : List ℕ → ℕ → ℕ
child_c t n = word_at 2 t (start n + 6)

-- "bytes 8–15 a signed 64-bit literal"
abbrev pub literal_of : List ℕ → ℕ → ℤ
literal_of t n = integer_at t (start n + 8)

abbrev pub record_at : List ℕ → ℕ → Record
record_at t n = record {
  kind = kind_of t n;
  mark = mark_of t n;
  a = child_a t n;
  b = child_b t n;
  c = child_c t n;
  literal = literal_of t n;
}

-- the bytes of a record, and of a table
abbrev pub record_bytes : Record → List ℕ
record_bytes r =
    r.kind ∷ r.mark ∷ digits 2 r.a ++ digits 2 r.b ++ digits 2 r.c ++ integer_bytes r.literal

abbrev pub table_bytes : List Record → List ℕ
table_bytes rs = flat record_bytes rs
