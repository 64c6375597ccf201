-- What is emitted for a let.
use Rattle.std.specs.Prelude.{ℕ, ◌+◌, List, ℤ, pos}
use Rattle.rules.specs.Emission.{RecordTree, none, node}
use Rattle.rules.specs.Records.{child_a}
use Rattle.translation_sizes.specs.Trees.{copy_at}
use Rattle.translation_emission.specs.declared.Output.{Output}
use Rattle.translation_emission.specs.Emission.{record_of, Pushed, Emitted, sequence_tree, leaf_tree}

-- a record over a leaf
abbrev pub over_tree : ℕ → ℕ → ℤ → ℕ → ℕ → ℕ → RecordTree
over_tree j l z s k m = node k m (pos s) 0 (node j l z 0 none none none) none none

-- "60 t0 variable; 69 t0"
abbrev pub ending_tree : ℕ → ℕ → RecordTree
ending_tree s x = sequence_tree s (over_tree 10 x (pos 0) s 60 0) (leaf_tree s 69 0 0)

-- "let of (60 t0 variable; 61 t1 literal 1; 68 n=0; body; 60 t0 variable; 69 t0)"
abbrev pub let_tree : ℕ → ℕ → RecordTree → RecordTree
let_tree s x b =
    node 47 x (pos s) 0
    (sequence_tree s (over_tree 10 x (pos 0) s 60 0)
    (sequence_tree s (over_tree 1 0 (pos 1) s 61 1)
    (sequence_tree s (leaf_tree s 68 0 0) (sequence_tree s b (ending_tree s x)))))
    none none

-- "body; 60 t0 variable; 69 t0", where record s is the let
abbrev pub inside_tree : List ℕ → ℕ → ℕ → RecordTree
inside_tree t s x = sequence_tree s (copy_at t (child_a t s)) (ending_tree s x)

-- the five records in front of a let's body are put
pub record Opened (s x : ℕ) (before after : Output) : Type 0 where
  pub addressed : Output
  pub sized : Output
  pub address : Emitted before (over_tree 10 x (pos 0) s 60 0) addressed
  pub size : Emitted addressed (over_tree 1 0 (pos 1) s 61 1) sized
  pub store : Emitted sized (leaf_tree s 68 0 0) after

-- the sequences of a let's parts and its own record are put: each goes over what ends with one of the records in front
-- of the body, the first of which stands behind record `first`, and all behind it
pub record Enclosed (first s x : ℕ) (before after : Output) : Type 0 where
  pub stored : Output
  pub sized : Output
  pub addressed : Output
  pub store : Pushed before (record_of 44 0 (first + 5) before.count 0 (pos s)) stored
  pub size : Pushed stored (record_of 44 0 (first + 4) stored.count 0 (pos s)) sized
  pub address : Pushed sized (record_of 44 0 (first + 2) sized.count 0 (pos s)) addressed
  pub own : Pushed addressed (record_of 47 x addressed.count 0 0 (pos s)) after
