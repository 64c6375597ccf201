-- A statement as records: the tree of its records, and their order in a table.
use Rattle.std.specs.Prelude.{ℕ, suc, ◌+◌, List, [], ◌∷◌, ◌++◌, ℤ, pos}
use Rattle.rules.specs.Records.{Record}
use Rattle.rules.specs.Trees.{Operator, add, subtract, multiply, divide, nearest, at_most, equal, shift, Query}
use Rattle.rules.specs.Trees.{valid, initialised, base, offset, block_length, Expression, literal, read, address}
use Rattle.rules.specs.Trees.{operation, shifted, Place, variable, pointed, temporary}
use Rattle.rules.specs.TargetTrees.{TargetStatement, skip, assign, new, free, sequence, branch, while, let_in}
use Rattle.rules.specs.TargetTrees.{take_address, take_value, take_operation, take_query, take_not, branch_on}
use Rattle.rules.specs.TargetTrees.{assert_on, store_block, delete_block, initialise}

-- the numbers of operators and queries
abbrev pub operator_number : Operator → ℕ
operator_number add = 1
operator_number subtract = 2
operator_number multiply = 3
operator_number divide = 4
operator_number nearest = 5
operator_number at_most = 6
operator_number equal = 7
operator_number shift = 8

abbrev pub query_number : Query → ℕ
query_number valid = 1
query_number initialised = 2
query_number base = 3
query_number offset = 4
query_number block_length = 5

-- a record and the records below it: kind, mark, literal, what field C is where it is no child, then the children
pub data RecordTree : Type 0 where
  none : RecordTree
  node : ℕ → ℕ → ℤ → ℕ → RecordTree → RecordTree → RecordTree → RecordTree

unfoldable mutual
  pub expression_tree : Expression ℕ → RecordTree
  expression_tree (literal z) = node 1 0 z 0 none none none
  expression_tree (read p) = node 2 0 (pos 0) 0 (place_tree p) none none
  expression_tree (address p) = node 3 0 (pos 0) 0 (place_tree p) none none
  expression_tree (operation o a b) = node 4 (operator_number o) (pos 0) 0 (expression_tree a) (expression_tree b) none
  expression_tree (shifted a b) = node 5 0 (pos 0) 0 (expression_tree a) (expression_tree b) none

  pub place_tree : Place ℕ → RecordTree
  place_tree (variable x) = node 10 x (pos 0) 0 none none none
  place_tree (pointed e) = node 11 0 (pos 0) 0 (expression_tree e) none none
  place_tree (temporary n) = node 12 n (pos 0) 0 none none none

unfoldable pub statement_tree : TargetStatement → RecordTree
statement_tree (skip s) = node 40 0 (pos s) 0 none none none
statement_tree (assign s p e) = node 41 0 (pos s) 0 (place_tree p) (expression_tree e) none
statement_tree (new s p e) = node 42 0 (pos s) 0 (place_tree p) (expression_tree e) none
statement_tree (free s e) = node 43 0 (pos s) 0 (expression_tree e) none none
statement_tree (sequence s a b) = node 44 0 (pos s) 0 (statement_tree a) (statement_tree b) none
statement_tree (branch s e a b) = node 45 0 (pos s) 0 (expression_tree e) (statement_tree a) (statement_tree b)
statement_tree (while s e b) = node 46 0 (pos s) 0 (expression_tree e) (statement_tree b) none
statement_tree (let_in s x b) = node 47 x (pos s) 0 (statement_tree b) none none
statement_tree (take_address s n p) = node 60 n (pos s) 0 (place_tree p) none none
statement_tree (take_value s n e) = node 61 n (pos s) 0 (expression_tree e) none none
statement_tree (take_operation s n o) = node 63 n (pos s) (operator_number o) none none none
statement_tree (take_query s n q) = node 64 n (pos s) (query_number q) none none none
statement_tree (take_not s n) = node 65 n (pos s) 0 none none none
statement_tree (branch_on s n a b) = node 66 n (pos s) 0 none (statement_tree a) (statement_tree b)
statement_tree (assert_on s n) = node 67 n (pos s) 0 none none none
statement_tree (store_block s n) = node 68 n (pos s) 0 none none none
statement_tree (delete_block s n) = node 69 n (pos s) 0 none none none
statement_tree (initialise s n) = node 70 n (pos s) 0 none none none

abbrev pub tree_size : RecordTree → ℕ
tree_size none = 0
tree_size (node k m z x a b c) = suc (tree_size a + tree_size b + tree_size c)

-- the number of a tree's own record, where n records stand before it; 0 is none
abbrev pub root_number : RecordTree → ℕ → ℕ
root_number none n = 0
root_number (node k m z x a b c) n = n + tree_size (node k m z x a b c)

-- field C: a child, or a number
abbrev pub field_c : RecordTree → ℕ → ℕ → ℕ
field_c none x n = x
field_c (node k m z y a b c) x n = root_number (node k m z y a b c) n

-- "Output is child-first: A's records, B's, C's, then the parent."
unfoldable pub emit : RecordTree → ℕ → List Record
emit none n = []
emit (node k m z x a b c) n =
    emit a n ++ emit b (n + tree_size a) ++ emit c (n + tree_size a + tree_size b)
    ++ (record {
      kind = k;
      mark = m;
      a = root_number a n;
      b = root_number b (n + tree_size a);
      c = field_c c x (n + tree_size a + tree_size b);
      literal = z;
    } ∷ [])
