-- The record number falls.
use Rattle.translation_sizes.proofs.+tree_size.Given as goal

abbrev pub decreases-tree_size : goal.decreases-tree_size
decreases-tree_size l = l.n
