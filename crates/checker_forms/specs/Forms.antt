-- The code's forms as those of the definitions.
use Rattle.std.specs.Prelude.{ℕ, zero, suc, ◌/◌, ◌<◌, ◌≤◌, cond, ◌||◌, List, [], ◌∷◌, ◌≡◌, leb, eqb}
use Rattle.std.specs.Prelude.{Option, None, Some, Ok}
use Rattle.rules.specs.Kinds.{Language, source, target, Sort, expression, place, term, predicate, statement}
use Rattle.rules.specs.Kinds.{unnamed, child, number, between, zero_literal, any_literal, statement_literal, form}
use Rattle.rules.specs.Checker.{record_fault}
use Rattle.checker_forms.specs.declared.{Field.Field, Literal.Literal, Form.Form, kinds.Fields.Fields}

-- what a field has
abbrev pub field_from : Field → Rattle.rules.specs.Kinds.Field
field_from Field.Unnamed = unnamed
field_from (Field.Child s) = child s
field_from (Field.Number low high) = number (between low high)
field_from Field.TermOperator = number (λ o. between 1 5 o || eqb o 8)

-- A and B have a child or nothing
abbrev pub child_from : Option Sort → Rattle.rules.specs.Kinds.Field
child_from None = unnamed
child_from (Some s) = child s

abbrev pub literal_from : Literal → Rattle.rules.specs.Kinds.Literal
literal_from Literal.Zero = zero_literal
literal_from Literal.Any = any_literal
literal_from Literal.Statement = statement_literal

-- a form lists its fields to the last that it names
abbrev pub with_first : Rattle.rules.specs.Kinds.Field → List Rattle.rules.specs.Kinds.Field
    → List Rattle.rules.specs.Kinds.Field
with_first unnamed [] = []
with_first unnamed (f ∷ fs) = unnamed ∷ f ∷ fs
with_first (child s) fs = child s ∷ fs
with_first (number p) fs = number p ∷ fs

abbrev pub fields_from : Form → List Rattle.rules.specs.Kinds.Field
fields_from f = with_first (child_from f.a) (with_first (child_from f.b) (with_first (field_from f.c) []))

-- what kind k asks
abbrev pub form_from : ℕ → Form → Rattle.rules.specs.Kinds.Form
form_from k f = form k f.sort (field_from f.mark) (fields_from f) (literal_from f.literal)

abbrev pub asked : ℕ → Option Form → Rattle.std.proofs.Math.Option.Option Rattle.rules.specs.Kinds.Form
asked k None = Rattle.std.proofs.Math.Option.none
asked k (Some f) = Rattle.std.proofs.Math.Option.some (form_from k f)

-- "From kind 40 on, a target literal is the number of the source statement"; kind 1 has any
abbrev pub literal_by : Language → ℕ → Literal
literal_by source k = cond (eqb k 1) Literal.Any Literal.Zero
literal_by target k = cond (eqb k 1) Literal.Any (cond (leb 40 k) Literal.Statement Literal.Zero)

-- the form of a sort, of what the mark, A, B and C have, and of a literal
abbrev pub form_with : Sort → Fields → Literal → Form
form_with s f l = record { sort = s; mark = f.0; a = f.1; b = f.2; c = f.3; literal = l }

-- the sort of a kind that a language has, by its tens
abbrev pub sort_at : ℕ → Sort
sort_at zero = expression
sort_at (suc zero) = place
sort_at (suc (suc zero)) = term
sort_at (suc (suc (suc zero))) = predicate
sort_at (suc (suc (suc (suc n)))) = statement

abbrev pub sort_by : ℕ → Sort
sort_by k = sort_at (k / 10)

-- the records before n keep 3 to 5
abbrev pub Before : Language → List ℕ → ℕ → Type 0
Before l t n = (i : ℕ) → 1 ≤ i → i < n → record_fault l t i ≡ Ok tt
