-- What a record of a source table is translated to.
use Rattle.std.specs.Prelude.{ℕ, List}
use Rattle.rules.specs.Kinds.{source}
use Rattle.rules.specs.Nodes.{node_sort, node_at}
use Rattle.rules.specs.Emission.{RecordTree}
use Rattle.rules.specs.RecordTrees.{tree_at}
pub use Rattle.rules.specs.RecordTrees.{target_tree, tree_at, Sorted}

-- an expression's or a place's
abbrev pub copy_at : List ℕ → ℕ → RecordTree
copy_at t n = tree_at t n 0 0

abbrev pub sort_at : List ℕ → ℕ → ℕ
sort_at t n = node_sort (node_at source t n)
