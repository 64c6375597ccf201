-- The kinds of records and what each asks of its fields.
use Rattle.std.specs.Prelude.{ℕ, suc, Bool, true, false, ◌&&◌, ◌||◌, List, [], ◌∷◌, ◌++◌, leb, eqb, get_or}
use Rattle.std.proofs.Math.Option.{Option, none, some}
use Rattle.rules.specs.Sizes.{source_limit, target_limit}

-- the two languages of tables, as src/lib.rt declares them: named anew, since a `pub use` of them ends at the crate
abbrev pub Language : Type 0
Language = Rattle.rules.specs.declared.Language.Language

pattern abbrev pub source : Language
source = Rattle.rules.specs.declared.Language.TheVariants.Source

pattern abbrev pub target : Language
target = Rattle.rules.specs.declared.Language.TheVariants.Target

-- the sorts of records
abbrev pub Sort : Type 0
Sort = Rattle.rules.specs.declared.Sort.Sort

pattern abbrev pub expression : Sort
expression = Rattle.rules.specs.declared.Sort.TheVariants.Expression

pattern abbrev pub place : Sort
place = Rattle.rules.specs.declared.Sort.TheVariants.Place

pattern abbrev pub term : Sort
term = Rattle.rules.specs.declared.Sort.TheVariants.Term

pattern abbrev pub predicate : Sort
predicate = Rattle.rules.specs.declared.Sort.TheVariants.Predicate

pattern abbrev pub statement : Sort
statement = Rattle.rules.specs.declared.Sort.TheVariants.Statement

-- sorts are compared by a number of their own
abbrev pub sort_number : Sort → ℕ
sort_number expression = 1
sort_number place = 2
sort_number term = 3
sort_number predicate = 4
sort_number statement = 5

-- what a kind has in a field: nothing ("Fields not named are zero"), a child, or a number that passes a test
pub data Field : Type 0 where
  unnamed : Field
  child : Sort → Field
  number : (ℕ → Bool) → Field

-- what a kind has for a literal: zero, any number, or the number of a source statement
pub data Literal : Type 0 where
  zero_literal any_literal statement_literal : Literal

-- what a kind asks of a record: of A, B, .. in order it lists those that it names, to the last
pub record Form : Type 0 where
  pub kind : ℕ
  pub sort : Sort
  pub mark : Field
  pub fields : List Field
  pub literal : Literal

abbrev pub form : ℕ → Sort → Field → List Field → Literal → Form
form k s m fs l = record { kind = k; sort = s; mark = m; fields = fs; literal = l }

-- what a kind has in A, B, .., by their positions 0, 1, ..
abbrev pub field_of : Form → ℕ → Field
field_of f i = get_or f.fields i unnamed

-- a kind's fields beside a list in that order, from position i on
abbrev pub beside : {A B : Type 0} → (Field → A → B) → Form → ℕ → List A → List B
beside h f i [] = []
beside h f i (x ∷ xs) = h (field_of f i) x ∷ beside h f (suc i) xs

abbrev pub between : ℕ → ℕ → ℕ → Bool
between low high x = leb low x && leb x high

-- "variable 0–63"; a temporary, so that the highest one named is at most t63
abbrev pub up_to : ℕ → Field
up_to high = number (between 0 high)

-- "1 literal; 2 read place A; 3 address of place A; 4 operator 1–7 in the mark, A, B; 5 pointer A shifted by integer B"
abbrev pub expressions : List Form
expressions =
    form 1 expression unnamed [] any_literal
    ∷ form 2 expression unnamed (child place ∷ []) zero_literal
    ∷ form 3 expression unnamed (child place ∷ []) zero_literal
    ∷ form 4 expression (number (between 1 7)) (child expression ∷ child expression ∷ []) zero_literal
    ∷ form 5 expression unnamed (child expression ∷ child expression ∷ []) zero_literal
    ∷ []

-- "10 variable 0–63 in the mark; 11 what expression A points to"
abbrev pub places : List Form
places =
    form 10 place (up_to 63) [] zero_literal
    ∷ form 11 place unnamed (child expression ∷ []) zero_literal
    ∷ []

-- "20 expression A; 21 base address, 22 offset, 23 block length of term A; 24 operator 1–5 or 8 in the mark, terms A, B"
abbrev pub terms : List Form
terms =
    form 20 term unnamed (child expression ∷ []) zero_literal
    ∷ form 21 term unnamed (child term ∷ []) zero_literal
    ∷ form 22 term unnamed (child term ∷ []) zero_literal
    ∷ form 23 term unnamed (child term ∷ []) zero_literal
    ∷ form 24 term (number (λ o. between 1 5 o || eqb o 8)) (child term ∷ child term ∷ []) zero_literal
    ∷ []

-- "30 valid, 31 initialised, of term A; 32 operator 6 or 7, terms A, B; 33 not A; 34 A and B; 35 A or B"
abbrev pub predicates : List Form
predicates =
    form 30 predicate unnamed (child term ∷ []) zero_literal
    ∷ form 31 predicate unnamed (child term ∷ []) zero_literal
    ∷ form 32 predicate (number (between 6 7)) (child term ∷ child term ∷ []) zero_literal
    ∷ form 33 predicate unnamed (child predicate ∷ []) zero_literal
    ∷ form 34 predicate unnamed (child predicate ∷ child predicate ∷ []) zero_literal
    ∷ form 35 predicate unnamed (child predicate ∷ child predicate ∷ []) zero_literal
    ∷ []

-- "40 skip; 41 place A takes expression B; 42 place A takes a new block of B cells; 43 free A; 44 A then B;
-- 45 if A then B else C; 46 while A do B; 47 let variable (mark) in A"
abbrev pub statements : Literal → List Form
statements l =
    form 40 statement unnamed [] l
    ∷ form 41 statement unnamed (child place ∷ child expression ∷ []) l
    ∷ form 42 statement unnamed (child place ∷ child expression ∷ []) l
    ∷ form 43 statement unnamed (child expression ∷ []) l
    ∷ form 44 statement unnamed (child statement ∷ child statement ∷ []) l
    ∷ form 45 statement unnamed (child expression ∷ child statement ∷ child statement ∷ []) l
    ∷ form 46 statement unnamed (child expression ∷ child statement ∷ []) l
    ∷ form 47 statement (up_to 63) (child statement ∷ []) l
    ∷ []

-- "48 assert predicate A"
abbrev pub assertion : Form
assertion = form 48 statement unnamed (child predicate ∷ []) zero_literal

-- "place 12, what tn points to"
abbrev pub temporary_place : Form
temporary_place = form 12 place (up_to 63) [] zero_literal

-- "60 tn takes the address of place A; 61 tn takes expression A; 63 tn takes t(n+1) operator t(n+2), operator 1–8 in
-- field C; 64 tn takes a query of t(n+1), field C being 1 valid, .. 5 length; 65 tn takes 1 if t(n+1) is 0, else 0; 66
-- if tn then B else C; 67 assert tn; 68 store block, pointer tn, length t(n+1); 69 delete block tn; 70 initialise tn"
abbrev pub temporary_statements : Literal → List Form
temporary_statements l =
    form 60 statement (up_to 63) (child place ∷ []) l
    ∷ form 61 statement (up_to 63) (child expression ∷ []) l
    ∷ form 63 statement (up_to 61) (unnamed ∷ unnamed ∷ number (between 1 8) ∷ []) l
    ∷ form 64 statement (up_to 62) (unnamed ∷ unnamed ∷ number (between 1 5) ∷ []) l
    ∷ form 65 statement (up_to 62) [] l
    ∷ form 66 statement (up_to 63) (unnamed ∷ child statement ∷ child statement ∷ []) l
    ∷ form 67 statement (up_to 63) [] l
    ∷ form 68 statement (up_to 62) [] l
    ∷ form 69 statement (up_to 63) [] l
    ∷ form 70 statement (up_to 63) [] l
    ∷ []

-- "A target table has no kind 20–35 or 48." "From kind 40 on, a target literal is the number of the source statement"
abbrev pub forms : Language → List Form
forms source = expressions ++ places ++ terms ++ predicates ++ statements zero_literal ++ (assertion ∷ [])
forms target =
    expressions ++ places ++ (temporary_place ∷ []) ++ statements statement_literal
    ++ temporary_statements statement_literal

unfoldable pub look_up : ℕ → List Form → Option Form
look_up k [] = none
look_up k (f ∷ fs) = elim (eqb k f.kind) [ true ↦ some f | false ↦ look_up k fs ]

unfoldable pub form_of : Language → ℕ → Option Form
form_of l k = look_up k (forms l)

abbrev pub record_limit : Language → ℕ
record_limit source = source_limit
record_limit target = target_limit
