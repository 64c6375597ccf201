-- A program with other statement numbers: each through a function.
use Rattle.std.specs.Prelude.{ℕ}
use Rattle.rules.specs.Flow.{Outcome, finished, ended}
use Rattle.rules.specs.Trees.{Statement}
use Rattle.rules.specs.Trees as tree
use Rattle.rules.specs.TargetTrees.{TargetStatement, skip, assign, new, free, sequence, branch, while, let_in}
use Rattle.rules.specs.TargetTrees.{take_address, take_value, take_operation, take_query, take_not, branch_on}
use Rattle.rules.specs.TargetTrees.{assert_on, store_block, delete_block, initialise}

unfoldable pub relabel : (ℕ → ℕ) → Statement → Statement
relabel g (tree.skip s) = tree.skip (g s)
relabel g (tree.assign s p e) = tree.assign (g s) p e
relabel g (tree.new s p e) = tree.new (g s) p e
relabel g (tree.free s e) = tree.free (g s) e
relabel g (tree.sequence s a b) = tree.sequence (g s) (relabel g a) (relabel g b)
relabel g (tree.branch s e a b) = tree.branch (g s) e (relabel g a) (relabel g b)
relabel g (tree.while s e b) = tree.while (g s) e (relabel g b)
relabel g (tree.let_in s x b) = tree.let_in (g s) x (relabel g b)
relabel g (tree.assert s p) = tree.assert (g s) p

unfoldable pub relabel_target : (ℕ → ℕ) → TargetStatement → TargetStatement
relabel_target g (skip s) = skip (g s)
relabel_target g (assign s p e) = assign (g s) p e
relabel_target g (new s p e) = new (g s) p e
relabel_target g (free s e) = free (g s) e
relabel_target g (sequence s a b) = sequence (g s) (relabel_target g a) (relabel_target g b)
relabel_target g (branch s e a b) = branch (g s) e (relabel_target g a) (relabel_target g b)
relabel_target g (while s e b) = while (g s) e (relabel_target g b)
relabel_target g (let_in s x b) = let_in (g s) x (relabel_target g b)
relabel_target g (take_address s n p) = take_address (g s) n p
relabel_target g (take_value s n e) = take_value (g s) n e
relabel_target g (take_operation s n o) = take_operation (g s) n o
relabel_target g (take_query s n q) = take_query (g s) n q
relabel_target g (take_not s n) = take_not (g s) n
relabel_target g (branch_on s n a b) = branch_on (g s) n (relabel_target g a) (relabel_target g b)
relabel_target g (assert_on s n) = assert_on (g s) n
relabel_target g (store_block s n) = store_block (g s) n
relabel_target g (delete_block s n) = delete_block (g s) n
relabel_target g (initialise s n) = initialise (g s) n

-- the statement at which a run ended, through a function
abbrev pub relabel_outcome : {S : Type 0} → (ℕ → ℕ) → Outcome S → Outcome S
relabel_outcome g (finished x f) = finished x f
relabel_outcome g (ended c s ρ w x f) = ended c (g s) ρ w x f
