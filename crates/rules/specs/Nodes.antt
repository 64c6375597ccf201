-- The tree that each record of a table is, by a left fold: node n is made of record n and of the nodes before it.
use Rattle.std.specs.Prelude.{ℕ, zero, suc, Bool, true, false, cond, ◌&&◌, List, [], ◌∷◌, ◌++◌, map, ◌≡◌, ltb, leb}
use Rattle.std.specs.Prelude.{eqb, pos, nat_abs, get_or, is_ok}
use Rattle.std.proofs.Math.Option.{Option, none, some}
use Rattle.rules.specs.Records.{Record, fields_of, record_count, kind_of, record_at, literal_of}
use Rattle.rules.specs.Kinds.{Language, source, target, sort_number, Field, unnamed, child, number, Form, form_of}
use Rattle.rules.specs.Kinds.{Sort}
use Rattle.rules.specs.Kinds.{beside, expression, place, term, predicate, statement}
use Rattle.rules.specs.Checker.{all, record_fault}
use Rattle.rules.specs.Trees.{Operator, add, subtract, multiply, divide, nearest, at_most, equal, shift, Query}
use Rattle.rules.specs.Trees.{valid, initialised, base, offset, block_length, Expression, literal, read, address}
use Rattle.rules.specs.Trees.{operation, shifted, Place, variable, pointed, temporary, Term, value, asked}
use Rattle.rules.specs.Trees.{combined, Predicate, holds, compared, negated, both, either, Statement}
use Rattle.rules.specs.Trees as tree
use Rattle.rules.specs.TargetTrees.{TargetStatement}
use Rattle.rules.specs.TargetTrees as target-tree

-- Operators by their numbers. Kind 5 names no operator, so that its mark is 0 ("Fields not named are zero"), and 0 is
-- the shift: the code runs kind 5 by its mark, as it runs kind 4. No accepted record has a number above 8.
abbrev pub operator_of : ℕ → Operator
operator_of zero = shift
operator_of (suc zero) = add
operator_of (suc (suc zero)) = subtract
operator_of (suc (suc (suc zero))) = multiply
operator_of (suc (suc (suc (suc zero)))) = divide
operator_of (suc (suc (suc (suc (suc zero))))) = nearest
operator_of (suc (suc (suc (suc (suc (suc zero)))))) = at_most
operator_of (suc (suc (suc (suc (suc (suc (suc zero))))))) = equal
operator_of (suc (suc (suc (suc (suc (suc (suc (suc n)))))))) = shift

-- queries by their numbers, of which an accepted record has 1 to 5
abbrev pub query_of : ℕ → Query
query_of zero = block_length
query_of (suc zero) = valid
query_of (suc (suc zero)) = initialised
query_of (suc (suc (suc zero))) = base
query_of (suc (suc (suc (suc zero)))) = offset
query_of (suc (suc (suc (suc (suc n))))) = block_length

-- what a record is, S being the language's statements; junk where it breaks the rules
pub data Node (T S : Type 0) : Type 0 where
  expression_node : Expression T → Node T S
  place_node : Place T → Node T S
  term_node : Term → Node T S
  predicate_node : Predicate → Node T S
  statement_node : S → Node T S
  junk : Node T S

abbrev pub node_sort : {T S : Type 0} → Node T S → ℕ
node_sort (expression_node e) = sort_number expression
node_sort (place_node p) = sort_number place
node_sort (term_node t) = sort_number term
node_sort (predicate_node p) = sort_number predicate
node_sort (statement_node s) = sort_number statement
node_sort junk = 0

-- the tree of a node of the right sort; the other cases never count
abbrev pub as_expression : {T S : Type 0} → Node T S → Expression T
as_expression (expression_node e) = e
as_expression (place_node p) = literal (pos 0)
as_expression (term_node t) = literal (pos 0)
as_expression (predicate_node p) = literal (pos 0)
as_expression (statement_node s) = literal (pos 0)
as_expression junk = literal (pos 0)

abbrev pub as_place : {T S : Type 0} → Node T S → Place T
as_place (expression_node e) = variable 0
as_place (place_node p) = p
as_place (term_node t) = variable 0
as_place (predicate_node p) = variable 0
as_place (statement_node s) = variable 0
as_place junk = variable 0

abbrev pub as_term : {T S : Type 0} → Node T S → Term
as_term (expression_node e) = value (literal (pos 0))
as_term (place_node p) = value (literal (pos 0))
as_term (term_node t) = t
as_term (predicate_node p) = value (literal (pos 0))
as_term (statement_node s) = value (literal (pos 0))
as_term junk = value (literal (pos 0))

abbrev pub as_predicate : {T S : Type 0} → Node T S → Predicate
as_predicate (expression_node e) = holds valid (value (literal (pos 0)))
as_predicate (place_node p) = holds valid (value (literal (pos 0)))
as_predicate (term_node t) = holds valid (value (literal (pos 0)))
as_predicate (predicate_node p) = p
as_predicate (statement_node s) = holds valid (value (literal (pos 0)))
as_predicate junk = holds valid (value (literal (pos 0)))

abbrev pub as_statement : {T S : Type 0} → S → Node T S → S
as_statement d (expression_node e) = d
as_statement d (place_node p) = d
as_statement d (term_node t) = d
as_statement d (predicate_node p) = d
as_statement d (statement_node s) = s
as_statement d junk = d

-- what stands for a kind in a list, and else d
infix 70 ◌gives◌
pub data Entry (A : Type 0) : Type 0 where
  ◌gives◌ : ℕ → A → Entry A

abbrev pub by_kind : {A : Type 0} → ℕ → List (Entry A) → A → A
by_kind k [] d = d
by_kind k ((j gives x) ∷ es) d = cond (eqb k j) x (by_kind k es d)

-- an expression or a place of the record's kind; `temporary_of` makes place 12
abbrev pub expression_of : {T S : Type 0} → (ℕ → Node T S) → Record → Node T S → Node T S → Node T S
expression_of temporary_of r a b =
    by_kind r.kind
    (1 gives expression_node (literal r.literal)
    ∷ 2 gives expression_node (read (as_place a))
    ∷ 3 gives expression_node (address (as_place a))
    ∷ 4 gives expression_node (operation (operator_of r.mark) (as_expression a) (as_expression b))
    ∷ 5 gives expression_node (shifted (as_expression a) (as_expression b))
    ∷ 10 gives place_node (variable r.mark)
    ∷ 11 gives place_node (pointed (as_expression a))
    ∷ [])
    (temporary_of r.mark)

abbrev pub SourceNode : Type 0
SourceNode = Node ⊥ Statement

abbrev pub TargetNode : Type 0
TargetNode = Node ℕ TargetStatement

abbrev pub source_statement : SourceNode → Statement
source_statement x = as_statement (tree.skip 0) x

abbrev pub target_statement : TargetNode → TargetStatement
target_statement x = as_statement (target-tree.skip 0) x

-- record n of a source table, of its fields and of what they name: the nodes of A, B, .. in order
abbrev pub source_of : ℕ → Record → List SourceNode → SourceNode
source_of n r cs =
    let a = get_or cs 0 junk in
    let b = get_or cs 1 junk in
    let c = get_or cs 2 junk in
    by_kind r.kind
    (20 gives term_node (value (as_expression a))
    ∷ 21 gives term_node (asked base (as_term a))
    ∷ 22 gives term_node (asked offset (as_term a))
    ∷ 23 gives term_node (asked block_length (as_term a))
    ∷ 24 gives term_node (combined (operator_of r.mark) (as_term a) (as_term b))
    ∷ 30 gives predicate_node (holds valid (as_term a))
    ∷ 31 gives predicate_node (holds initialised (as_term a))
    ∷ 32 gives predicate_node (compared (operator_of r.mark) (as_term a) (as_term b))
    ∷ 33 gives predicate_node (negated (as_predicate a))
    ∷ 34 gives predicate_node (both (as_predicate a) (as_predicate b))
    ∷ 35 gives predicate_node (either (as_predicate a) (as_predicate b))
    ∷ 40 gives statement_node (tree.skip n)
    ∷ 41 gives statement_node (tree.assign n (as_place a) (as_expression b))
    ∷ 42 gives statement_node (tree.new n (as_place a) (as_expression b))
    ∷ 43 gives statement_node (tree.free n (as_expression a))
    ∷ 44 gives statement_node (tree.sequence n (source_statement a) (source_statement b))
    ∷ 45 gives statement_node (tree.branch n (as_expression a) (source_statement b) (source_statement c))
    ∷ 46 gives statement_node (tree.while n (as_expression a) (source_statement b))
    ∷ 47 gives statement_node (tree.let_in n r.mark (source_statement a))
    ∷ 48 gives statement_node (tree.assert n (as_predicate a))
    ∷ [])
    (expression_of (λ m. junk) r a b)

-- record of a target table; s is its literal, a statement's number
abbrev pub target_of : ℕ → Record → List TargetNode → TargetNode
target_of s r cs =
    let a = get_or cs 0 junk in
    let b = get_or cs 1 junk in
    let c = get_or cs 2 junk in
    by_kind r.kind
    (40 gives statement_node (target-tree.skip s)
    ∷ 41 gives statement_node (target-tree.assign s (as_place a) (as_expression b))
    ∷ 42 gives statement_node (target-tree.new s (as_place a) (as_expression b))
    ∷ 43 gives statement_node (target-tree.free s (as_expression a))
    ∷ 44 gives statement_node (target-tree.sequence s (target_statement a) (target_statement b))
    ∷ 45 gives statement_node (target-tree.branch s (as_expression a) (target_statement b) (target_statement c))
    ∷ 46 gives statement_node (target-tree.while s (as_expression a) (target_statement b))
    ∷ 47 gives statement_node (target-tree.let_in s r.mark (target_statement a))
    ∷ 60 gives statement_node (target-tree.take_address s r.mark (as_place a))
    ∷ 61 gives statement_node (target-tree.take_value s r.mark (as_expression a))
    ∷ 63 gives statement_node (target-tree.take_operation s r.mark (operator_of r.c))
    ∷ 64 gives statement_node (target-tree.take_query s r.mark (query_of r.c))
    ∷ 65 gives statement_node (target-tree.take_not s r.mark)
    ∷ 66 gives statement_node (target-tree.branch_on s r.mark (target_statement b) (target_statement c))
    ∷ 67 gives statement_node (target-tree.assert_on s r.mark)
    ∷ 68 gives statement_node (target-tree.store_block s r.mark)
    ∷ 69 gives statement_node (target-tree.delete_block s r.mark)
    ∷ 70 gives statement_node (target-tree.initialise s r.mark)
    ∷ [])
    (expression_of (λ m. place_node (temporary m)) r a b)

abbrev pub NodeOf : Language → Type 0
NodeOf source = SourceNode
NodeOf target = TargetNode

abbrev pub build_node : (l : Language) → ℕ → Record → List (NodeOf l) → NodeOf l
build_node source n r cs = source_of n r cs
build_node target n r cs = target_of (nat_abs r.literal) r cs

abbrev pub junk_node : (l : Language) → NodeOf l
junk_node source = junk
junk_node target = junk

abbrev pub sort_of_node : (l : Language) → NodeOf l → ℕ
sort_of_node source x = node_sort x
sort_of_node target x = node_sort x

-- a child's node is of the sort that the form asks for
abbrev pub node_fits : (l : Language) → Field → NodeOf l → Bool
node_fits l unnamed x = true
node_fits l (child s) x = eqb (sort_of_node l x) (sort_number s)
node_fits l (number p) x = true

abbrev pub nodes_fit : (l : Language) → Option Form → List (NodeOf l) → Bool
nodes_fit l none cs = false
nodes_fit l (some f) cs = all (beside (node_fits l) f 0 cs)

abbrev pub guarded : (l : Language) → Bool → NodeOf l → NodeOf l
guarded l true x = x
guarded l false x = junk_node l

-- record n with its children's nodes: junk where the table has no record n, where it breaks rules 3–5, or where a
-- child's node is junk
abbrev pub node_from : (l : Language) → List ℕ → ℕ → List (NodeOf l) → NodeOf l
node_from l t n cs =
    guarded l
    (ltb 0 n && leb n (record_count t) && is_ok (record_fault l t n) && nodes_fit l (form_of l (kind_of t n)) cs)
    (build_node l n (record_at t n) cs)

abbrev pub node_in : (l : Language) → List (NodeOf l) → ℕ → NodeOf l
node_in l ns x = get_or ns x (junk_node l)

-- node n, given the nodes 0 .. n - 1
unfoldable pub make_node : (l : Language) → List ℕ → ℕ → List (NodeOf l) → NodeOf l
make_node l t n ns = node_from l t n (map (node_in l ns) (fields_of (record_at t n)))

abbrev pub with_next : (l : Language) → List ℕ → ℕ → List (NodeOf l) → List (NodeOf l)
with_next l t n ns = ns ++ (make_node l t n ns ∷ [])

-- the nodes 0 .. n - 1
unfoldable pub nodes : (l : Language) → List ℕ → ℕ → List (NodeOf l)
nodes l t zero = []
nodes l t (suc n) = with_next l t n (nodes l t n)

unfoldable pub node_at : (l : Language) → List ℕ → ℕ → NodeOf l
node_at l t n = make_node l t n (nodes l t n)

-- "The last record is a statement"
abbrev pub source_program : List ℕ → Statement
source_program t = source_statement (node_at source t (record_count t))

abbrev pub target_program : List ℕ → TargetStatement
target_program t = target_statement (node_at target t (record_count t))

-- record n is there, keeps rules 3–5 and is of the sort, and all below it is in order
abbrev pub HasSort : Language → Sort → List ℕ → ℕ → Type 0
HasSort l s t n = sort_of_node l (node_at l t n) ≡ sort_number s

-- the trees of record n of a source table
abbrev pub expression_at : List ℕ → ℕ → Expression ⊥
expression_at t n = as_expression (node_at source t n)

abbrev pub place_at : List ℕ → ℕ → Place ⊥
place_at t n = as_place (node_at source t n)

abbrev pub predicate_at : List ℕ → ℕ → Predicate
predicate_at t n = as_predicate (node_at source t n)

abbrev pub statement_at : List ℕ → ℕ → Statement
statement_at t n = source_statement (node_at source t n)

-- the trees of record n of a target table
abbrev pub target_expression_at : List ℕ → ℕ → Expression ℕ
target_expression_at t n = as_expression (node_at target t n)

abbrev pub target_place_at : List ℕ → ℕ → Place ℕ
target_place_at t n = as_place (node_at target t n)

abbrev pub target_statement_at : List ℕ → ℕ → TargetStatement
target_statement_at t n = target_statement (node_at target t n)

-- "a target literal is the number of the source statement it came from"
abbrev pub number_at : List ℕ → ℕ → ℕ
number_at t n = nat_abs (literal_of t n)
