-- "Turned away because of the input": the numbered rules as tests of a record, each giving the lowest.
use mathlib.Core.List.{List, [], ◌∷◌, foldl}
use Rattle.std.specs.Prelude.{ℕ, zero, suc, ◌+◌, ◌/◌, ◌%◌, Bool, true, false, not, cond, ◌&&◌, ◌||◌, ltb, leb, eqb, ℤ}
use Rattle.std.specs.Prelude.{pos, length, Result, Err, None, Ok, Some, is_err}
use Rattle.std.proofs.Math.Option.{Option, none, some}
use Rattle.std.specs.Int.Signed.{le_z}
use Rattle.rules.specs.Types.{Search, Checked, Rule}
use Rattle.rules.specs.Sizes.{input_limit, temporary_count, memory_length, observation_length}
use Rattle.rules.specs.Records.{Record, fields_of, record_count, kind_of, mark_of, record_at}
use Rattle.rules.specs.Kinds.{Language, source, target, statement, sort_number, Field, unnamed, child}
use Rattle.rules.specs.Kinds.{number, Literal, zero_literal, any_literal, statement_literal, Form, form_of}
use Rattle.rules.specs.Kinds.{beside, record_limit}

-- the lowest of k numbers from j on that passes a test
unfoldable pub lowest : (ℕ → Bool) → ℕ → ℕ → Search
lowest p j zero = None
lowest p j (suc k) = elim (p j) [ true ↦ Some j | false ↦ lowest p (suc j) k ]

-- "within one number the lowest record is named"
abbrev pub lowest_record : List ℕ → (ℕ → Bool) → Search
lowest_record t p = lowest p 1 (record_count t)

-- every test passes; numbers added up
abbrev pub all : List Bool → Bool
all ps = foldl ◌&&◌ true ps

abbrev pub total : List ℕ → ℕ
total ns = foldl ◌+◌ 0 ns

-- "1 length 0 or no multiple of 16. 2 too many records."
abbrev pub length_fault : List ℕ → Bool
length_fault t = eqb (length t) 0 || not (eqb (length t % 16) 0)

abbrev pub count_fault : Language → List ℕ → Bool
count_fault l t = ltb (record_limit l) (record_count t)

-- "4 mark, operator, query, literal or child presence against the rules"
abbrev pub field_fits : Field → ℕ → Bool
field_fits unnamed x = eqb x 0
field_fits (child s) x = ltb 0 x
field_fits (number p) x = p x

abbrev pub literal_fits : Literal → ℤ → Bool
literal_fits zero_literal z = le_z z (pos 0) && le_z (pos 0) z
literal_fits any_literal z = true
literal_fits statement_literal z = le_z (pos 1) z && le_z z (pos 256)

abbrev pub fields_fit : Form → Record → Bool
fields_fit f r =
    all (field_fits f.mark r.mark ∷ beside field_fits f 0 (fields_of r)) && literal_fits f.literal r.literal

-- "5 child not smaller or of the wrong sort"
abbrev pub form_sort : Option Form → ℕ
form_sort none = 0
form_sort (some f) = sort_number f.sort

abbrev pub sort_of : Language → ℕ → ℕ
sort_of l k = form_sort (form_of l k)

abbrev pub child_fits : Language → List ℕ → ℕ → Field → ℕ → Bool
child_fits l t n unnamed x = true
child_fits l t n (child s) x = ltb x n && eqb (sort_of l (kind_of t x)) (sort_number s)
child_fits l t n (number p) x = true

abbrev pub children_fit : Language → List ℕ → ℕ → Form → Record → Bool
children_fit l t n f r = all (beside (child_fits l t n) f 0 (fields_of r))

-- what 3, 4 and 5 say of record n. "3 kind not in the language."
abbrev pub fault_of : Language → List ℕ → ℕ → Option Form → Result Unit Rule
fault_of l t n none = Err Rule.Kind
fault_of l t n (some f) =
    cond (fields_fit f (record_at t n)) (cond (children_fit l t n f (record_at t n)) (Ok tt) (Err Rule.Child))
    (Err Rule.Field)

unfoldable pub record_fault : Language → List ℕ → ℕ → Result Unit Rule
record_fault l t n = fault_of l t n (form_of l (kind_of t n))

-- how often record n is a child: in a field, of record m, of the records 1 .. k
abbrev pub times_in : Field → ℕ → ℕ → ℕ
times_in unnamed x n = 0
times_in (child s) x n = cond (eqb x n) 1 0
times_in (number p) x n = 0

abbrev pub times_of : Option Form → Record → ℕ → ℕ
times_of none r n = 0
times_of (some f) r n = total (beside (λ g x. times_in g x n) f 0 (fields_of r))

unfoldable pub times_child_of : Language → List ℕ → ℕ → ℕ → ℕ
times_child_of l t m n = times_of (form_of l (kind_of t m)) (record_at t m) n

unfoldable pub times_child : Language → List ℕ → ℕ → ℕ → ℕ
times_child l t zero n = 0
times_child l t (suc k) n = times_child l t k n + times_child_of l t (suc k) n

-- "6 shape (last record no statement, or another not a child exactly once)"
unfoldable pub shape_fault : Language → List ℕ → ℕ → Bool
shape_fault l t n =
    elim (eqb n (record_count t)) [
      | true ↦ not (eqb (sort_of l (kind_of t n)) (sort_number statement))
      | false ↦ not (eqb (times_child l t (record_count t) n) 1)
    ]

-- the record that has n for a child
unfoldable pub parent_of : Language → List ℕ → ℕ → Search
parent_of l t n = lowest_record t (λ m. ltb 0 (times_child_of l t m n))

-- record m is a let of variable x
abbrev pub is_let_of : List ℕ → ℕ → ℕ → Bool
is_let_of t m x = eqb (kind_of t m) 47 && eqb (mark_of t m) x

-- "Variable 0 is in scope throughout"; another where a record above is its let. d bounds the records above.
unfoldable pub in_scope : Language → List ℕ → ℕ → ℕ → ℕ → Bool
in_scope l t zero x n = eqb x 0
in_scope l t (suc d) x n =
    elim (eqb x 0) [
      | true ↦ true
      | false ↦
          elim (parent_of l t n) [
            | None ↦ false
            | Some m ↦
                elim (is_let_of t m x) [ true ↦ true | false ↦ in_scope l t d x m ]
          ]
    ]

abbrev pub mark_in_scope : Language → List ℕ → ℕ → Bool
mark_in_scope l t n = in_scope l t (record_count t) (mark_of t n) n

-- "7 variable used out of scope, or let while in scope"
unfoldable pub scope_fault : Language → List ℕ → ℕ → Bool
scope_fault l t n =
    elim (eqb (kind_of t n) 10) [
      | true ↦ not (mark_in_scope l t n)
      | false ↦
          elim (eqb (kind_of t n) 47) [ true ↦ mark_in_scope l t n | false ↦ false ]
    ]

-- the kinds of terms and predicates by how their children's levels go
abbrev pub is_unary : ℕ → Bool
is_unary k = (leb 21 k && leb k 23) || eqb k 30 || eqb k 31 || eqb k 33

abbrev pub is_binary : ℕ → Bool
is_binary k = eqb k 24 || eqb k 32

abbrev pub is_joint : ℕ → Bool
is_joint k = eqb k 34 || eqb k 35

-- "21–23, 30, 31: child at n+1 .. 24, 32: A at n+1; B at n+2 .. 33: child at n+1 .. 34: A at n; .. B at n", 35 too:
-- the level of child i, A being 0, of a term or predicate of kind k at level n
abbrev pub level_below : ℕ → ℕ → ℕ → ℕ
level_below k i n = cond (is_unary k) (suc n) (cond (is_binary k) (n + 1 + i) (cond (is_joint k) n 0))

-- where a number first stands in a list
abbrev pub position_in : List ℕ → ℕ → ℕ
position_in [] x = 0
position_in (y ∷ ys) x = cond (eqb y x) 0 (suc (position_in ys x))

-- the level of record n
unfoldable pub level_of : List ℕ → ℕ → ℕ → ℕ
level_of t zero n = 0
level_of t (suc d) n =
    elim (parent_of source t n) [
      | Some m ↦ level_below (kind_of t m) (position_in (fields_of (record_at t m)) n) (level_of t d m)
      | None ↦ 0
    ]

-- the highest temporary that a term's or predicate's own target records name at level n: tn of 61 and 66,
-- t(n+1) of 64 and 65, t(n+2) of 63
abbrev pub highest_named : ℕ → ℕ → ℕ
highest_named k n = cond (is_unary k) (suc n) (cond (is_binary k) (suc (suc n)) n)

abbrev pub is_term_or_predicate : ℕ → Bool
is_term_or_predicate k = leb 20 k && leb k 35

-- "8 a term or predicate of a source table whose own target records (not its children's) name a temporary above 63"
unfoldable pub level_fault : List ℕ → ℕ → Bool
level_fault t n =
    elim (is_term_or_predicate (kind_of t n)) [
      | true ↦ leb temporary_count (highest_named (kind_of t n) (level_of t (record_count t) n))
      | false ↦ false
    ]

-- what a rule says: it refuses the whole, the record found, or nothing
abbrev pub refused : Rule → ℕ → Checked
refused rule n = Err (record { rule = rule; «record» = n })

abbrev pub refuse_if : Rule → Bool → Checked
refuse_if rule true = refused rule 0
refuse_if rule false = Ok tt

abbrev pub refused_at : ℕ → Result Unit Rule → Checked
refused_at n (Ok u) = Ok u
refused_at n (Err rule) = refused rule n

abbrev pub refuse_by : (ℕ → Result Unit Rule) → Search → Checked
refuse_by says (Some n) = refused_at n (says n)
refuse_by says None = Ok tt

abbrev pub refuse_at : Rule → Search → Checked
refuse_at rule s = refuse_by (λ n. Err rule) s

-- a rule is tried where the one before it refuses nothing
infixr 20 ◌otherwise◌
abbrev pub ◌otherwise◌ : Checked → Checked → Checked
(Ok u) otherwise c = c
(Err r) otherwise c = Err r

abbrev pub last_rule : Language → List ℕ → Checked
last_rule source t = refuse_at Rule.Level (lowest_record t (level_fault t))
last_rule target t = Ok tt

-- "Checked in this order; .. 3–5 are tried record by record."
unfoldable pub check : Language → List ℕ → Checked
check l t =
    refuse_if Rule.Length (length_fault t)
    otherwise refuse_if Rule.Count (count_fault l t)
    otherwise refuse_by (record_fault l t) (lowest_record t (λ n. is_err (record_fault l t n)))
    otherwise refuse_at Rule.Shape (lowest_record t (shape_fault l t))
    otherwise refuse_at Rule.Scope (lowest_record t (scope_fault l t))
    otherwise last_rule l t

-- "9 inputs no multiple of 8 bytes, none, or over 256"
abbrev pub inputs_fault : List ℕ → Bool
inputs_fault i = not (eqb (length i % 8) 0) || eqb (length i) 0 || ltb input_limit (length i / 8)

-- "20 output shorter than the translation". 02 §5: "21 tests for 49,144 bytes and 22 for 33,784"
abbrev pub output_fault : List ℕ → List ℕ → Bool
output_fault bytes out = ltb (length out) (length bytes)

abbrev pub memory_fault : List ℕ → Bool
memory_fault m = not (eqb (length m) memory_length)

abbrev pub observation_fault : List ℕ → Bool
observation_fault o = not (eqb (length o) observation_length)
