-- Where a pointer leads: to a cell of its own block, which is live.
use Prim.Native.Nat.{ℕ, ◌+◌, ◌<◌}
use native.Mathlib.Omega.{arith}
use mathlib.Core.Path.{◌≡◌, refl, ap, ◌∙◌}
use mathlib.Core.Bool.{Bool, true, false, cond}
use lib.Dec.{ltb}
use lib.IntN.{ℤ, pos, negsuc}
use borrow.Author.Tests.{ltb-true}
use Rattle.std.specs.Prelude.{Err, Ok}
use Rattle.rules.specs.Types.{Pointer, Located, Recorded, Miss, Stop}
use Rattle.rules.specs.Sizes.{cell_count}
use Rattle.rules.specs.Memory.{Memory, recorded_of, block_of, located_in, locate, at_cell}
use Rattle.rules.specs.Observation.{covers}
use Rattle.rules.proofs.Memory.MemoryLaws.{covers-inside}
use Rattle.rules.proofs.Memory.Invariant.{Invariant}

-- block k covers the cell, which is one of the 1,024
abbrev pub Leads : Memory → ℕ → Located → Type 0
Leads m k (Ok i) = (covers (recorded_of (block_of m k)) i ≡ true) × (i < cell_count)
Leads m k (Err Miss.Dead) = Unit {0}
Leads m k (Err Miss.Outside) = Unit {0}

pub leads : (m : Memory) (p : Pointer) → Invariant m → Leads m p.name (locate m p)
unfolding locate
leads m p y = go (recorded_of (block_of m p.name)) p.offset refl
  where
    go : (x : Recorded) (z : ℤ) → recorded_of (block_of m p.name) ≡ x → Leads m p.name (located_in x z)
    go Recorded.Unused z e = tt
    go Recorded.Dead z e = tt
    go (Recorded.Live first n) (negsuc o) e = tt
    go (Recorded.Live first n) (pos o) e = at (ltb o n) refl
      where
        at : (b : Bool) → ltb o n ≡ b → Leads m p.name (cond b (Ok (first + o)) (Err Miss.Outside))
        at false h = tt
        at true h =
            let inner = ltb-true o n h in (
              ap (λ b. covers b (first + o)) e ∙ covers-inside first n (first + o) (omega arith) (omega arith),
              omega (arith, y.within p.name first n e),
            )

-- so what is done at a pointer's cell is done at a cell of its block
pub at-pointed : {A : Type 0} (P : A → Type 0) (at : ℕ → A) (stop : Stop → A) (m : Memory) (p : Pointer) → Invariant m
    → ((i : ℕ) → covers (recorded_of (block_of m p.name)) i ≡ true → P (at i)) → ((c : Stop) → P (stop c))
    → P (at_cell at stop (locate m p))
at-pointed P at stop m p y g h = go (locate m p) (leads m p y)
  where
    go : (r : Located) → Leads m p.name r → P (at_cell at stop r)
    go (Ok i) w = g i w.0
    go (Err Miss.Dead) w = h Stop.DeadBlock
    go (Err Miss.Outside) w = h Stop.OutsideBlock
