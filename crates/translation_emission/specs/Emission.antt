-- The records of a tree, put into the output behind those that stand there.
use Rattle.std.specs.Prelude.{ℕ, ◌+◌, ◌*◌, ◌≤◌, List, ◌⊎◌, ◌≡◌, ℤ, pos, length}
use Rattle.rules.specs.Words.{put}
use Rattle.rules.specs.Records.{Record, record_bytes, table_bytes}
use Rattle.rules.specs.Emission.{RecordTree, none, node, tree_size, emit}
use Rattle.translation_sizes.specs.Trees.{copy_at, sort_at}
use Rattle.translation_emission.specs.declared.Output.{Output}

abbrev pub record_of : ℕ → ℕ → ℕ → ℕ → ℕ → ℤ → Record
record_of k m a b c z = record { kind = k; mark = m; a = a; b = b; c = c; literal = z }

-- the bytes of an output with a record, and with a tree's records, behind those that stand there
abbrev pub with_record : Output → Record → List ℕ
with_record o r = put o.bytes.now (16 * o.count) (record_bytes r)

abbrev pub with_tree : Output → RecordTree → List ℕ
with_tree o w = put o.bytes.now (16 * o.count) (table_bytes (emit w o.count))

-- the output has room for n more records, and for a tree's
abbrev pub RoomFor : Output → ℕ → Type 0
RoomFor o n = 16 * (o.count + n) ≤ length o.bytes.now

abbrev pub Room : Output → RecordTree → Type 0
Room o w = RoomFor o (tree_size w)

-- what a function has done that puts a record: in the same lent bytes it stands behind those that stood there
pub record Pushed (before : Output) (r : Record) (after : Output) : Type 0 where
  pub same : after.bytes.ghost_name ≡ before.bytes.ghost_name
  pub bytes : after.bytes.now ≡ with_record before r
  pub count : after.count ≡ before.count + 1

-- and one that emits a tree: its records do, and the last of them is the tree's own
pub record Emitted (before : Output) (w : RecordTree) (after : Output) : Type 0 where
  pub same : after.bytes.ghost_name ≡ before.bytes.ghost_name
  pub bytes : after.bytes.now ≡ with_tree before w
  pub count : after.count ≡ before.count + tree_size w

-- record n is an expression or a place, or n is 0
abbrev pub Copied : List ℕ → ℕ → Type 0
Copied t n = (n ≡ 0) ⊎ ((1 ≤ sort_at t n) × (sort_at t n ≤ 2))

-- of statement s: a sequence, a record over copies of records a and b, and one without children
abbrev pub sequence_tree : ℕ → RecordTree → RecordTree → RecordTree
sequence_tree s a b = node 44 0 (pos s) 0 a b none

abbrev pub part_tree : List ℕ → ℕ → ℕ → ℕ → ℕ → ℕ → RecordTree
part_tree t s k m a b = node k m (pos s) 0 (copy_at t a) (copy_at t b) none

abbrev pub leaf_tree : ℕ → ℕ → ℕ → ℕ → RecordTree
leaf_tree s k m c = node k m (pos s) c none none none
