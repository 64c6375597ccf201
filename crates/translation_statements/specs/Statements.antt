-- What is emitted for statements that have none below them, and which statements may stand.
use Rattle.std.specs.Prelude.{ℕ, ◌≤◌, List, ◌≡◌, pos}
use Rattle.rules.specs.Sizes.{source_limit}
use Rattle.rules.specs.Kinds.{source}
use Rattle.rules.specs.Nodes.{SourceNode, expression_node, place_node, term_node, predicate_node, statement_node, junk}
use Rattle.rules.specs.Nodes.{node_at}
use Rattle.rules.specs.Trees.{Statement}
use Rattle.rules.specs.Trees as tree
use Rattle.rules.specs.Emission.{RecordTree, none, node}
use Rattle.translation_emission.specs.Emission.{sequence_tree, part_tree, leaf_tree}
use Rattle.translation_assertions.specs.Tests.{PredicateLevels}

-- "61 t1 read of 12 t0"
abbrev pub fetch_tree : ℕ → RecordTree
fetch_tree s = node 61 1 (pos s) 0 (node 2 0 (pos 0) 0 (node 12 0 (pos 0) 0 none none none) none none) none none

-- "60 t0 place; 41; 70 t0" and "61 t0; 43; 69 t0"
abbrev pub saved_tree : List ℕ → ℕ → ℕ → ℕ → ℕ → ℕ → ℕ → RecordTree
saved_tree t s first k last a b =
    sequence_tree s (part_tree t s first 0 a 0) (sequence_tree s (part_tree t s k 0 a b) (leaf_tree s last 0 0))

-- "61 t1 read of 12 t0; 68 n=1; 70 t0"
abbrev pub stored_tree : ℕ → RecordTree
stored_tree s = sequence_tree s (fetch_tree s) (sequence_tree s (leaf_tree s 68 1 0) (leaf_tree s 70 0 0))

-- "60 t0 place; 61 t2 size; 42; 61 t1 read of 12 t0; 68 n=1; 70 t0"
abbrev pub new_tree : List ℕ → ℕ → ℕ → ℕ → RecordTree
new_tree t s a b =
    sequence_tree s (part_tree t s 60 0 a 0)
    (sequence_tree s (part_tree t s 61 2 b 0) (sequence_tree s (part_tree t s 42 0 a b) (stored_tree s)))

-- a statement's numbers are those of a source table, and its assertions' temporaries below 64
abbrev pub StatementLevels : Statement → Type 0
StatementLevels (tree.skip s) = s ≤ source_limit
StatementLevels (tree.assign s p e) = s ≤ source_limit
StatementLevels (tree.new s p e) = s ≤ source_limit
StatementLevels (tree.free s e) = s ≤ source_limit
StatementLevels (tree.sequence s a b) = (s ≤ source_limit) × StatementLevels a × StatementLevels b
StatementLevels (tree.branch s e a b) = (s ≤ source_limit) × StatementLevels a × StatementLevels b
StatementLevels (tree.while s e b) = (s ≤ source_limit) × StatementLevels b
StatementLevels (tree.let_in s x b) = (s ≤ source_limit) × StatementLevels b
StatementLevels (tree.assert s p) = (s ≤ source_limit) × PredicateLevels p 0

abbrev pub StatementNode : SourceNode → Type 0
StatementNode (expression_node e) = ⊥
StatementNode (place_node p) = ⊥
StatementNode (term_node x) = ⊥
StatementNode (predicate_node p) = ⊥
StatementNode (statement_node x) = StatementLevels x
StatementNode junk = ⊥

abbrev pub StatementAt : List ℕ → ℕ → Type 0
StatementAt t n = StatementNode (node_at source t n)

-- a kind that has no statement below it
abbrev pub Simple : ℕ → Type 0
Simple k = (k ≡ 44 → ⊥) × (k ≡ 45 → ⊥) × (k ≡ 46 → ⊥) × (k ≡ 47 → ⊥)
