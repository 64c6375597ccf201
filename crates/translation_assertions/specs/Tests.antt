-- What is emitted for terms and predicates, and at which levels they may stand.
use Rattle.std.specs.Prelude.{ℕ, suc, ◌≤◌, ◌<◌, cond, List, eqb, pos}
use Rattle.rules.specs.Sizes.{source_limit}
use Rattle.rules.specs.Kinds.{source}
use Rattle.rules.specs.Nodes.{SourceNode, expression_node, place_node, term_node, predicate_node, statement_node, junk}
use Rattle.rules.specs.Nodes.{node_at}
use Rattle.rules.specs.Trees.{Term, value, asked, combined, Predicate, holds, compared, negated, both, either}
use Rattle.rules.specs.Emission.{RecordTree}
use Rattle.translation_sizes.specs.Trees.{tree_at}
use Rattle.translation_emission.specs.declared.Output.{Output}
use Rattle.translation_emission.specs.Emission.{record_of, Room, Pushed, sequence_tree, leaf_tree}

-- the temporaries that a term or predicate at level v names are below 64
abbrev pub TermLevels : Term → ℕ → Type 0
TermLevels (value e) v = v < 64
TermLevels (asked q x) v = (suc v < 64) × TermLevels x (suc v)
TermLevels (combined o x y) v = (suc (suc v) < 64) × TermLevels x (suc v) × TermLevels y (suc (suc v))

abbrev pub PredicateLevels : Predicate → ℕ → Type 0
PredicateLevels (holds q x) v = (suc v < 64) × TermLevels x (suc v)
PredicateLevels (compared o x y) v = (suc (suc v) < 64) × TermLevels x (suc v) × TermLevels y (suc (suc v))
PredicateLevels (negated p) v = (suc v < 64) × PredicateLevels p (suc v)
PredicateLevels (both p q) v = (v < 64) × PredicateLevels p v × PredicateLevels q v
PredicateLevels (either p q) v = (v < 64) × PredicateLevels p v × PredicateLevels q v

-- a node is a term or a predicate that may stand at level v
abbrev pub Levels : SourceNode → ℕ → Type 0
Levels (expression_node e) v = ⊥
Levels (place_node p) v = ⊥
Levels (term_node x) v = TermLevels x v
Levels (predicate_node p) v = PredicateLevels p v
Levels (statement_node x) v = ⊥
Levels junk v = ⊥

abbrev pub LevelsAt : List ℕ → ℕ → ℕ → Type 0
LevelsAt t n v = Levels (node_at source t n) v

-- record n is one, under statement s, and there is room for its records
pub record Ready (t : List ℕ) (n : ℕ) (o : Output) (s v : ℕ) : Type 0 where
  pub levels : LevelsAt t n v
  pub number : s ≤ source_limit
  pub room : Room o (tree_at t n s v)

-- "21–23, 30, 31: child at n+1; 64. .. 33: child at n+1; 65": the last record's kind, and its field C, the query
abbrev pub last_kind : ℕ → ℕ
last_kind k = cond (eqb k 33) 65 64

abbrev pub last_field : ℕ → ℕ
last_field k =
    cond (eqb k 30) 1 (cond (eqb k 31) 2 (cond (eqb k 21) 3 (cond (eqb k 22) 4 (cond (eqb k 23) 5 0))))

-- a 66 and the sequence over it: B ends with record `yes`, C with the last
pub record Branched (before : Output) (first yes m s : ℕ) (after : Output) : Type 0 where
  pub middle : Output
  pub own : Pushed before (record_of 66 m 0 yes before.count (pos s)) middle
  pub over : Pushed middle (record_of 44 0 first middle.count 0 (pos s)) after

-- "48: predicate at level 0; 67 t0."
abbrev pub assert_tree : List ℕ → ℕ → ℕ → RecordTree
assert_tree t s a = sequence_tree s (tree_at t a s 0) (leaf_tree s 67 0 0)
