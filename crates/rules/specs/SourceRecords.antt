-- A source statement as records, and the numbers that its statements get by their place among these. An expression or
-- a place has the records that it has in a target table.
use Rattle.std.specs.Prelude.{ℕ, ◌+◌, pos}
use Rattle.rules.specs.Trees.{Query, valid, initialised, base, offset, block_length, Expression, Place, Term}
use Rattle.rules.specs.Trees.{value, asked, combined, Predicate, holds, compared, negated, both, either}
use Rattle.rules.specs.Trees.{Statement, skip, assign, new, free, sequence, branch, while, let_in, assert}
use Rattle.rules.specs.Emission.{RecordTree, none, node, operator_number, expression_tree, place_tree, tree_size}
use Rattle.rules.specs.Emission.{root_number}
use Rattle.rules.specs.Translation.{embed, embed_place}

abbrev pub source_expression : Expression ⊥ → RecordTree
source_expression e = expression_tree (embed e)

abbrev pub source_place : Place ⊥ → RecordTree
source_place p = place_tree (embed_place p)

-- "21 base address, 22 offset, 23 block length of term A"; "30 valid, 31 initialised, of term A"
abbrev pub query_kind : Query → ℕ
query_kind valid = 30
query_kind initialised = 31
query_kind base = 21
query_kind offset = 22
query_kind block_length = 23

-- "20 expression A; .. 24 operator 1–5 or 8 in the mark, terms A, B"
unfoldable pub term_tree : Term → RecordTree
term_tree (value e) = node 20 0 (pos 0) 0 (source_expression e) none none
term_tree (asked q t) = node (query_kind q) 0 (pos 0) 0 (term_tree t) none none
term_tree (combined o a b) = node 24 (operator_number o) (pos 0) 0 (term_tree a) (term_tree b) none

-- "32 operator 6 or 7, terms A, B; 33 not A; 34 A and B; 35 A or B"
unfoldable pub predicate_tree : Predicate → RecordTree
predicate_tree (holds q t) = node (query_kind q) 0 (pos 0) 0 (term_tree t) none none
predicate_tree (compared o a b) = node 32 (operator_number o) (pos 0) 0 (term_tree a) (term_tree b) none
predicate_tree (negated a) = node 33 0 (pos 0) 0 (predicate_tree a) none none
predicate_tree (both a b) = node 34 0 (pos 0) 0 (predicate_tree a) (predicate_tree b) none
predicate_tree (either a b) = node 35 0 (pos 0) 0 (predicate_tree a) (predicate_tree b) none

-- a source record says nothing of its number: "Fields not named are zero"
unfoldable pub source_tree : Statement → RecordTree
source_tree (skip s) = node 40 0 (pos 0) 0 none none none
source_tree (assign s p e) = node 41 0 (pos 0) 0 (source_place p) (source_expression e) none
source_tree (new s p e) = node 42 0 (pos 0) 0 (source_place p) (source_expression e) none
source_tree (free s e) = node 43 0 (pos 0) 0 (source_expression e) none none
source_tree (sequence s a b) = node 44 0 (pos 0) 0 (source_tree a) (source_tree b) none
source_tree (branch s e a b) = node 45 0 (pos 0) 0 (source_expression e) (source_tree a) (source_tree b)
source_tree (while s e b) = node 46 0 (pos 0) 0 (source_expression e) (source_tree b) none
source_tree (let_in s x b) = node 47 x (pos 0) 0 (source_tree b) none none
source_tree (assert s p) = node 48 0 (pos 0) 0 (predicate_tree p) none none

-- the number of a statement's own record, where n records stand before the statement's
abbrev pub number_in : Statement → ℕ → ℕ
number_in a n = root_number (source_tree a) n

-- a statement numbered by its records, where n records stand before them
unfoldable pub numbered : Statement → ℕ → Statement
numbered (skip s) n = skip (number_in (skip s) n)
numbered (assign s p e) n = assign (number_in (assign s p e) n) p e
numbered (new s p e) n = new (number_in (new s p e) n) p e
numbered (free s e) n = free (number_in (free s e) n) e
numbered (sequence s a b) n =
    sequence (number_in (sequence s a b) n) (numbered a n) (numbered b (n + tree_size (source_tree a)))
numbered (branch s e a b) n =
    let m = n + tree_size (source_expression e) in
    branch (number_in (branch s e a b) n) e (numbered a m) (numbered b (m + tree_size (source_tree a)))
numbered (while s e b) n = while (number_in (while s e b) n) e (numbered b (n + tree_size (source_expression e)))
numbered (let_in s x b) n = let_in (number_in (let_in s x b) n) x (numbered b n)
numbered (assert s p) n = assert (number_in (assert s p) n) p
