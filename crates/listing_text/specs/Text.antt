-- The pieces that a listing's text is written in.
use Rattle.std.specs.Prelude.{ℕ, suc, ◌*◌, true, false, List, [], ◌∷◌, ◌++◌, length, ltb}
use Rattle.rules.specs.Words.{put, tabulate}
use Rattle.rules.specs.Records.{Record, record_count, record_at}
use Rattle.rules.specs.Translation.{translated_records}
use Rattle.rules.specs.Listing.{natural, integer, line, record_lines, listing}

-- a number and the space behind it
abbrev pub spaced : List ℕ → List ℕ
spaced w = w ++ (32 ∷ [])

-- three numbers, each with its space
abbrev pub three : ℕ → ℕ → ℕ → List ℕ
three x y z = spaced (natural x) ++ spaced (natural y) ++ spaced (natural z)

-- the three parts of a record's line
abbrev pub head_text : ℕ → Record → List ℕ
head_text n r = three n r.kind r.mark

abbrev pub children_text : Record → List ℕ
children_text r = three r.a r.b r.c

abbrev pub literal_text : Record → List ℕ
literal_text r = integer r.literal ++ (10 ∷ [])

-- a refusal's line
abbrev pub refusal_line : ℕ → ℕ → List ℕ
refusal_line k n = line (natural k) (natural n ∷ [])

-- a table's records and their lines; those of a translation
abbrev pub records_of : List ℕ → List Record
records_of t = tabulate 0 (record_count t) (λ i. record_at t (suc i))

abbrev pub table_lines : List ℕ → List ℕ
table_lines t = record_lines 1 (records_of t)

abbrev pub translated_lines : List ℕ → List ℕ
translated_lines t = record_lines 1 (translated_records t)

-- 52 bytes for a line, since a number has at most 4 digits, kind and mark 3, a child 5, a literal 20 signs; and 3,584
-- lines, 14 for each of 256 records
abbrev pub longest_line : ℕ
longest_line = 52

abbrev pub longest_text : ℕ
longest_text = 3584 * longest_line

-- a listing's length and its lent output
pub record Listed : Type 0 where
  pub length : ℕ
  pub out : List ℕ

-- a text at the start of the output; nothing where the output is shorter than the longest listing
abbrev pub text_into : List ℕ → List ℕ → Listed
text_into text out =
    elim (ltb (length out) longest_text) [
      | true ↦ record { length = 0; out = out }
      | false ↦ record { length = length text; out = put out 0 text }
    ]

abbrev pub listed : List ℕ → List ℕ → Listed
listed t out = text_into (listing t) out
