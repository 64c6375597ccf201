-- Document 01, "Worked on paper", P2 as 02 §1 has it: what the rules give for P1 to P10, and what the papers say.
use Rattle.std.specs.Prelude.{ℕ, ◌+◌, ◌-◌, ◌^◌, List, [], ◌∷◌, ◌++◌, map, ℤ, pos, neg_ℤ, replicate}
use Rattle.rules.specs.Types.{Answer}
use Rattle.rules.specs.Sizes.{memory_length, observation_length}
use Rattle.rules.specs.Words.{part, integer_at, integer_bytes}
use Rattle.rules.specs.Records.{Record, table_bytes}
use Rattle.rules.specs.Translation.{translation}
use Rattle.rules.specs.Layout.{block_place, cell_place}
use Rattle.rules.specs.Answers.{PlainRun, WatchedRun, run_plain, run_watched}
use Rattle.rules.specs.Listing.{listing}

-- a record: kind, mark, A, B, C, literal
abbrev pub of_all : ℕ → ℕ → ℕ → ℕ → ℕ → ℤ → Record
of_all k m a b c z = record { kind = k; mark = m; a = a; b = b; c = c; literal = z }

-- a record with nothing but its children, and a literal
abbrev pub of : ℕ → ℕ → ℕ → Record
of k a b = of_all k 0 a b 0 (pos 0)

abbrev pub literal : ℤ → Record
literal z = of_all 1 0 0 0 0 z

abbrev pub minus : ℕ → ℤ
minus n = neg_ℤ (pos n)

-- "With inputs 7, 9"
abbrev pub inputs : List ℕ
inputs = integer_bytes (pos 7) ++ integer_bytes (pos 9)

unfoldable pub plain : List Record → PlainRun
plain rs = run_plain (table_bytes rs) inputs 0 (replicate memory_length 0)

unfoldable pub watched : List Record → WatchedRun
watched rs =
    run_watched (translation (table_bytes rs)) inputs 0 (replicate memory_length 0) (replicate observation_length 0)

-- number and statement of an answer, of a program's plain run, and of its plain and its watched run
abbrev pub stop : Answer → List ℕ
stop a = a.number ∷ a.«record» ∷ []

unfoldable pub ending : List Record → List ℕ
ending rs = stop (plain rs).answer

unfoldable pub endings : List Record → List ℕ
endings rs = ending rs ++ stop (watched rs).answer

-- "P1: source 10 | 2 A=1 | 20 A=2 | 30 A=3 | 48 A=4"
abbrev pub p1 : List Record
p1 = of 10 0 0 ∷ of 2 1 0 ∷ of 20 2 0 ∷ of 30 3 0 ∷ of 48 4 0 ∷ []

-- P2 to P4, o being the operator's number: variable 0 takes x by y, of kind 4
abbrev pub division : ℕ → ℤ → ℤ → List Record
division o x y = of 10 0 0 ∷ literal x ∷ literal y ∷ of_all 4 o 2 3 0 (pos 0) ∷ of 41 1 4 ∷ []

-- and the assertion that x by y, of kind 24, equals z; in P4 it ends before z counts
abbrev pub assertion : ℕ → ℤ → ℤ → ℤ → List Record
assertion o x y z =
    literal x ∷ of 20 1 0 ∷ literal y ∷ of 20 3 0 ∷ of_all 24 o 2 4 0 (pos 0)
    ∷ literal z ∷ of 20 6 0 ∷ of_all 32 7 5 7 0 (pos 0) ∷ of 48 8 0 ∷ []

-- variable 0's cell in an execution memory: eight bytes with kind, owner and pointed-to name, then its integer or offset
abbrev pub variable_cell : List ℕ → List ℤ
variable_cell memory = map pos (part 8 memory (cell_place 0)) ++ (integer_at memory (cell_place 0 + 8) ∷ [])

-- the endings of both, and the cell that each run of the division leaves
unfoldable pub divided : ℕ → ℤ → ℤ → ℤ → List ℤ
divided o x y z =
    map pos (endings (division o x y) ++ endings (assertion o x y z))
    ++ variable_cell (plain (division o x y)).memory ++ variable_cell (watched (division o x y)).memory

-- "P5 input offsets 0, 1 valid, −1, 2 not"
abbrev pub p5 : ℤ → List Record
p5 z = of 10 0 0 ∷ of 2 1 0 ∷ literal z ∷ of 5 2 3 ∷ of 20 4 0 ∷ of 30 5 0 ∷ of 48 6 0 ∷ []

-- variable 5, and its let
abbrev pub five : Record
five = of_all 10 5 0 0 0 (pos 0)

abbrev pub let_five : ℕ → Record
let_five a = of_all 47 5 a 0 0 (pos 0)

-- "P6 in a fresh let the variable is valid and not initialised"
abbrev pub p6 : List Record
p6 =
    five ∷ of 3 1 0 ∷ of 20 2 0 ∷ of 30 3 0 ∷ of 48 4 0
    ∷ five ∷ of 3 6 0 ∷ of 20 7 0 ∷ of 31 8 0 ∷ of 33 9 0 ∷ of 48 10 0 ∷ of 44 5 11 ∷ let_five 12 ∷ []

-- "P7 let p, p = &p, *p = 5 finishes"
abbrev pub p7 : List Record
p7 =
    five ∷ five ∷ of 3 2 0 ∷ of 41 1 3
    ∷ five ∷ of 2 5 0 ∷ of 11 6 0 ∷ literal (pos 5) ∷ of 41 7 8 ∷ of 44 4 9 ∷ let_five 10 ∷ []

-- "P8 inside one let, a new block of 1,020 cells fits, 1,021 ends 30, 0 ends 45"
abbrev pub p8 : ℕ → List Record
p8 n = five ∷ literal (pos n) ∷ of 42 1 2 ∷ let_five 3 ∷ []

-- "P9 new, free, new of one size gives the same first cell and the next name": with one new, and with all three
abbrev pub p9 : List Record
p9 =
    five ∷ literal (pos 6) ∷ of 42 1 2 ∷ five ∷ of 2 4 0 ∷ of 43 5 0
    ∷ five ∷ literal (pos 6) ∷ of 42 7 8 ∷ of 44 6 9 ∷ of 44 3 10 ∷ let_five 11 ∷ []

-- the block record of a name after a program
unfoldable pub block_after : List Record → ℕ → List ℕ
block_after rs k = part 8 (plain rs).memory (block_place (k - 1))

-- "P10 false 'and' a read of an undefined cell is false": 0 = 1 and x = 1
abbrev pub p10 : List Record
p10 =
    literal (pos 0) ∷ of 20 1 0 ∷ literal (pos 1) ∷ of 20 3 0 ∷ of_all 32 7 2 4 0 (pos 0)
    ∷ five ∷ of 2 6 0 ∷ of 20 7 0 ∷ literal (pos 1) ∷ of 20 9 0 ∷ of_all 32 7 8 10 0 (pos 0)
    ∷ of 34 5 11 ∷ of 48 12 0 ∷ let_five 13 ∷ []

-- what the rules give, case by case
unfoldable pub worked : List (List ℤ)
worked =
    map pos (listing (table_bytes p1))
    ∷ (divided 5 (pos 7) (pos 2) (pos 4) ++ divided 5 (minus 7) (pos 2) (minus 4)
    ++ divided 5 (pos 5) (pos 2) (pos 2) ++ divided 5 (minus 5) (pos 2) (minus 2)
    ++ divided 5 (pos 1) (pos 3) (pos 0))
    ∷ divided 4 (minus 7) (pos 2) (minus 3)
    ∷ (divided 4 (minus (2 ^ 63)) (minus 1) (pos 0) ++ divided 4 (minus (2 ^ 63)) (pos 0) (pos 0)
    ++ divided 5 (minus (2 ^ 63)) (minus 1) (pos 0) ++ divided 5 (minus (2 ^ 63)) (pos 0) (pos 0))
    ∷ map pos (endings (p5 (pos 0)) ++ endings (p5 (pos 1)) ++ endings (p5 (minus 1)) ++ endings (p5 (pos 2)))
    ∷ map pos (endings p6)
    ∷ map pos (endings p7)
    ∷ map pos (ending (p8 1020) ++ ending (p8 1021) ++ ending (p8 0))
    ∷ map pos (endings p9 ++ block_after (p8 6) 4 ++ block_after p9 4 ++ block_after p9 5)
    ∷ map pos (endings p10)
    ∷ []

-- what document 01 says, and of P2 02 §1: P1's lines in ASCII
abbrev pub listing_on_paper : List ℕ
listing_on_paper =
    (49 ∷ 32 ∷ 49 ∷ 48 ∷ 32 ∷ 48 ∷ 32 ∷ 48 ∷ 32 ∷ 48 ∷ 32 ∷ 48 ∷ 32 ∷ 48 ∷ 10 ∷ []) ++
    (50 ∷ 32 ∷ 50 ∷ 32 ∷ 48 ∷ 32 ∷ 49 ∷ 32 ∷ 48 ∷ 32 ∷ 48 ∷ 32 ∷ 48 ∷ 10 ∷ []) ++
    (51 ∷ 32 ∷ 54 ∷ 49 ∷ 32 ∷ 49 ∷ 32 ∷ 50 ∷ 32 ∷ 48 ∷ 32 ∷ 48 ∷ 32 ∷ 53 ∷ 10 ∷ []) ++
    (52 ∷ 32 ∷ 54 ∷ 52 ∷ 32 ∷ 48 ∷ 32 ∷ 48 ∷ 32 ∷ 48 ∷ 32 ∷ 49 ∷ 32 ∷ 53 ∷ 10 ∷ []) ++
    (53 ∷ 32 ∷ 52 ∷ 52 ∷ 32 ∷ 48 ∷ 32 ∷ 51 ∷ 32 ∷ 52 ∷ 32 ∷ 48 ∷ 32 ∷ 53 ∷ 10 ∷ []) ++
    (54 ∷ 32 ∷ 54 ∷ 55 ∷ 32 ∷ 48 ∷ 32 ∷ 48 ∷ 32 ∷ 48 ∷ 32 ∷ 48 ∷ 32 ∷ 53 ∷ 10 ∷ []) ++
    (55 ∷ 32 ∷ 52 ∷ 52 ∷ 32 ∷ 48 ∷ 32 ∷ 53 ∷ 32 ∷ 54 ∷ 32 ∷ 48 ∷ 32 ∷ 53 ∷ 10 ∷ [])

-- P2 and P3: both programs finish, plain and watched, and the cell is an integer whose owner is block 1
abbrev pub quotient : ℤ → List ℤ
quotient z =
    map pos (0 ∷ 0 ∷ 0 ∷ 0 ∷ 0 ∷ 0 ∷ 0 ∷ 0 ∷ [])
    ++ map pos (2 ∷ 0 ∷ 1 ∷ 0 ∷ 0 ∷ 0 ∷ 0 ∷ 0 ∷ []) ++ (z ∷ [])
    ++ map pos (2 ∷ 0 ∷ 1 ∷ 0 ∷ 0 ∷ 0 ∷ 0 ∷ 0 ∷ []) ++ (z ∷ [])

-- P4: the division ends at its 41, record 5, the assertion at its 48, record 9; the cell still points to block 2
abbrev pub no_quotient : ℕ → List ℤ
no_quotient k =
    map pos (k ∷ 5 ∷ k ∷ 5 ∷ k ∷ 9 ∷ k ∷ 9 ∷ [])
    ++ map pos (3 ∷ 0 ∷ 1 ∷ 0 ∷ 2 ∷ 0 ∷ 0 ∷ 0 ∷ 0 ∷ [])
    ++ map pos (3 ∷ 0 ∷ 1 ∷ 0 ∷ 2 ∷ 0 ∷ 0 ∷ 0 ∷ 0 ∷ [])

-- numbers and statements; in P9 block 4 of 6 cells from cell 4 on, then dead, and block 5 in its place
unfoldable pub on_paper : List (List ℤ)
on_paper =
    map pos listing_on_paper
    ∷ (quotient (pos 4) ++ quotient (minus 4) ++ quotient (pos 2) ++ quotient (minus 2) ++ quotient (pos 0))
    ∷ quotient (minus 3)
    ∷ (no_quotient 43 ++ no_quotient 44 ++ no_quotient 43 ++ no_quotient 44)
    ∷ map pos (0 ∷ 0 ∷ 0 ∷ 0 ∷ 0 ∷ 0 ∷ 0 ∷ 0 ∷ 33 ∷ 7 ∷ 33 ∷ 7 ∷ 33 ∷ 7 ∷ 33 ∷ 7 ∷ [])
    ∷ map pos (0 ∷ 0 ∷ 0 ∷ 0 ∷ [])
    ∷ map pos (0 ∷ 0 ∷ 0 ∷ 0 ∷ [])
    ∷ map pos (0 ∷ 0 ∷ 30 ∷ 3 ∷ 45 ∷ 3 ∷ [])
    ∷ map pos
    ((0 ∷ 0 ∷ 0 ∷ 0 ∷ []) ++ (2 ∷ 0 ∷ 4 ∷ 0 ∷ 6 ∷ 0 ∷ 0 ∷ 0 ∷ [])
    ++ (3 ∷ 0 ∷ 0 ∷ 0 ∷ 0 ∷ 0 ∷ 0 ∷ 0 ∷ []) ++ (2 ∷ 0 ∷ 4 ∷ 0 ∷ 6 ∷ 0 ∷ 0 ∷ 0 ∷ []))
    ∷ map pos (33 ∷ 13 ∷ 33 ∷ 13 ∷ [])
    ∷ []
