-- A store leaves the counts right.
use Prim.Native.Nat.{ℕ}
use mathlib.Core.List.{List}
use mathlib.Core.Path.{◌≡◌, refl, ◌∙◌}
use Rattle.rules.specs.Memory.{Memory, Change, changed, stopped, store_cell, assigned}
use Rattle.rules.specs.Layout.{memory_of}
use Rattle.rules.specs.declared.{Counts.Counts, Pointer.Pointer, Value.Value}
use Rattle.rules.specs.Types.{Evaluated, Found}
use Rattle.rules.proofs.Memory.Invariant.{changed_memory}
use Rattle.memory_counts.specs.Counted.{Counted}
use Rattle.memory_counts.proofs.CountLaws.{counted_is, counted-store}
use Rattle.memory_cells.specs.Changes.{Becomes, change_memory}
use Rattle.std.specs.Prelude.{Err, Ok}

changed-is : (x : Change Memory) → change_memory x ≡ changed_memory x
changed-is (changed m) = refl
changed-is (stopped k m) = refl

module _ {a b : List ℕ} {c : Counts} (h : Counted (memory_of a) c) where
  pub counted-stored : (p : Pointer) (v : Value) → Becomes a b (change_memory (store_cell (memory_of a) p v))
      → Counted (memory_of b) c
  counted-stored p v w =
      counted_is (w.view ∙ changed-is (store_cell (memory_of a) p v)) refl (counted-store h p v)

  pub counted-assigned : (f : Found) (e : Evaluated) → Becomes a b (change_memory (assigned (memory_of a) f e))
      → Counted (memory_of b) c
  counted-assigned (Ok p) (Ok v) w = counted-stored p v w
  counted-assigned (Ok p) (Err k) w = counted_is w.view refl h
  counted-assigned (Err k) e w = counted_is w.view refl h
