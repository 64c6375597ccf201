-- What a record of a source table is translated to, and of how many records that is.
use Rattle.std.specs.Prelude.{ℕ, ◌+◌, ◌*◌, ◌≤◌, List, ◌⊎◌, ◌≡◌}
use Rattle.rules.specs.Kinds.{source}
use Rattle.rules.specs.Nodes.{SourceNode, expression_node, place_node, term_node, predicate_node, statement_node}
use Rattle.rules.specs.Nodes.{junk, node_sort, node_at}
use Rattle.rules.specs.Emission.{RecordTree, none, expression_tree, place_tree, statement_tree}
use Rattle.rules.specs.Translation.{embed, embed_place, translate_term, translate_predicate, translate}
use Rattle.rules.specs.Origins.{own_records, copies_of_child}

-- the records that a record is translated to: those of a term or predicate under statement s at level v
abbrev pub target_tree : SourceNode → ℕ → ℕ → RecordTree
target_tree (expression_node e) s v = expression_tree (embed e)
target_tree (place_node p) s v = place_tree (embed_place p)
target_tree (term_node x) s v = statement_tree (translate_term x s v)
target_tree (predicate_node p) s v = statement_tree (translate_predicate p s v)
target_tree (statement_node x) s v = statement_tree (translate x)
target_tree junk s v = none

abbrev pub tree_at : List ℕ → ℕ → ℕ → ℕ → RecordTree
tree_at t n s v = target_tree (node_at source t n) s v

-- record n is there and keeps the rules, or n is 0
abbrev pub Sorted : List ℕ → ℕ → Type 0
Sorted t n = (n ≡ 0) ⊎ (1 ≤ node_sort (node_at source t n))

-- the size of a translation from the sizes of its children's
abbrev pub size_from : ℕ → ℕ → ℕ → ℕ → ℕ
size_from k a b c = own_records k + copies_of_child k 0 * a + copies_of_child k 1 * b + c
