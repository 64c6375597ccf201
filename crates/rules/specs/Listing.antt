-- The text of a listing: "one line a target record: number, kind, mark, A, B, C, literal; for a refused table one line,
-- refusal number and record".
use Rattle.std.specs.Prelude.{ℕ, zero, suc, ◌+◌, ◌/◌, ◌%◌, true, false, List, [], ◌∷◌, ◌++◌, ltb, ℤ, pos, negsuc, Err}
use Rattle.std.specs.Prelude.{Ok}
use Rattle.rules.specs.Types.{Checked, rule_number}
use Rattle.rules.specs.Records.{Record}
use Rattle.rules.specs.Kinds.{source}
use Rattle.rules.specs.Checker.{check}
use Rattle.rules.specs.Translation.{translated_records}

-- "figures here are decimal": a number's digits in ASCII, at most k of them; 64 bits have at most 20
unfoldable pub decimal_digits : ℕ → ℕ → List ℕ
decimal_digits zero n = []
decimal_digits (suc k) n =
    elim (ltb n 10) [ true ↦ (48 + n) ∷ [] | false ↦ decimal_digits k (n / 10) ++ ((48 + n % 10) ∷ []) ]

abbrev pub natural : ℕ → List ℕ
natural n = decimal_digits 20 n

abbrev pub integer : ℤ → List ℕ
integer (pos n) = natural n
integer (negsuc n) = 45 ∷ natural (suc n)

-- numbers with single spaces between them, and a newline
abbrev pub line : List ℕ → List (List ℕ) → List ℕ
line w [] = w ++ (10 ∷ [])
line w (v ∷ vs) = w ++ (32 ∷ line v vs)

abbrev pub record_line : ℕ → Record → List ℕ
record_line n r =
    line (natural n)
    (natural r.kind ∷ natural r.mark ∷ natural r.a ∷ natural r.b ∷ natural r.c ∷ integer r.literal
    ∷ [])

-- the records from number n on
unfoldable pub record_lines : ℕ → List Record → List ℕ
record_lines n [] = []
record_lines n (r ∷ rs) = record_line n r ++ record_lines (suc n) rs

abbrev pub listing_by : Checked → List ℕ → List ℕ
listing_by (Ok u) t = record_lines 1 (translated_records t)
listing_by (Err r) t = line (natural (rule_number r.rule)) (natural r.«record» ∷ [])

abbrev pub listing : List ℕ → List ℕ
listing t = listing_by (check source t) t
