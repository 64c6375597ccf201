-- What holds of the execution memory at every step, and what can become of a block.
use Prim.Native.Nat.{ℕ, ◌+◌, ◌≤◌}
use native.Mathlib.Omega.{arith}
use mathlib.Core.Path.{◌≡◌, refl, ap}
use mathlib.Core.Logic.{◌⊎◌, inl, inr}
use mathlib.Core.Bool.{true, false, true≢false}
use mathlib.Core.List.{List, map}
use lib.ListN.{length}
use Rattle.rules.specs.Types.{Block, Recorded, Cell}
use Rattle.rules.specs.Sizes.{name_count, cell_count}
use Rattle.rules.specs.Memory.{Memory, recorded_of, named, block_of, cell_of, Change, changed, stopped, is_unused}
use Rattle.rules.specs.Observation.{covers}
use Rattle.rules.proofs.Memory.MemoryLaws.{coverage}

abbrev pub occupied : Cell → ℕ
occupied Cell.Free = 0
occupied (Cell.Holds o v) = 1

pub at_most_one : (c : Cell) → occupied c ≤ 1
at_most_one Cell.Free = omega arith
at_most_one (Cell.Holds o v) = omega arith

abbrev pub records_of : Memory → List Recorded
records_of m = map recorded_of m.blocks

-- below a name that was given every name was: the names that were given are 1, 2, 3 ..
abbrev pub Rising : List Block → Type 0
Rising l = (j k : ℕ) → 1 ≤ j → j ≤ k → k ≤ name_count → is_unused (named l k Block.Dead) ≡ false
    → is_unused (named l j Block.Dead) ≡ false

-- a cell that is not free lies in the live block of its owner's name
abbrev pub Owned : List Block → ℕ → Cell → Type 0
Owned l i Cell.Free = Unit {0}
Owned l i (Cell.Holds o v) = covers (recorded_of (named l o Block.Dead)) i ≡ true

-- all the names, given in rising order, and all the cells; live blocks lie within the cells; a cell is occupied where
-- one live block covers it, whose name is its owner, and free where none does
pub record Invariant (m : Memory) : Type 0 where
  pub names : length m.blocks ≡ name_count
  pub size : length m.cells ≡ cell_count
  pub within : (k first n : ℕ) → recorded_of (block_of m k) ≡ Recorded.Live first n → first + n ≤ cell_count
  pub cover : (i : ℕ) → coverage (records_of m) i ≡ occupied (cell_of m i)
  pub rising : Rising m.blocks
  pub owned : (i : ℕ) → Owned m.blocks i (cell_of m i)

-- what can become of a block: a name once given is never unused again, a fixed block stays where it is, a freeable one
-- stays or dies, a dead one stays dead
abbrev pub Becomes : Block → Block → Type 0
Becomes Block.Unused c = Unit {0}
Becomes (Block.Fixed first n) c = c ≡ Block.Fixed first n
Becomes (Block.Freeable first n) c = (c ≡ Block.Freeable first n) ⊎ (c ≡ Block.Dead)
Becomes Block.Dead c = c ≡ Block.Dead

pub becomes-itself : (b : Block) → Becomes b b
becomes-itself Block.Unused = tt
becomes-itself (Block.Fixed first n) = refl
becomes-itself (Block.Freeable first n) = inl refl
becomes-itself Block.Dead = refl

pub becomes-then : (a b c : Block) → Becomes a b → Becomes b c → Becomes a c
becomes-then Block.Unused b c p q = tt
becomes-then (Block.Fixed first n) b c p q = rw p at q
becomes-then (Block.Freeable first n) b c (inl p) q = rw p at q
becomes-then (Block.Freeable first n) b c (inr p) q = inr (rw p at q)
becomes-then Block.Dead b c p q = rw p at q

-- a name that was given stays given
pub becomes-given : (b c : Block) → Becomes b c → is_unused b ≡ false → is_unused c ≡ false
becomes-given Block.Unused c h e = absurd (true≢false e)
becomes-given (Block.Fixed first n) c h e = ap is_unused h
becomes-given (Block.Freeable first n) c (inl h) e = ap is_unused h
becomes-given (Block.Freeable first n) c (inr h) e = ap is_unused h
becomes-given Block.Dead c h e = ap is_unused h

-- from memory m to memory m₁
pub record Onward (m m₁ : Memory) : Type 0 where
  pub invariant : Invariant m₁
  pub becomes : (k : ℕ) → Becomes (block_of m k) (block_of m₁ k)

pub onward-itself : {m : Memory} → Invariant m → Onward m m
onward-itself {m} v = record { invariant = v; becomes = λ k. becomes-itself (block_of m k) }

pub onward_then : {m m₁ m₂ : Memory} → Onward m m₁ → Onward m₁ m₂ → Onward m m₂
onward_then {m} {m₁} {m₂} p q = record {
  invariant = q.invariant;
  becomes = λ k. becomes-then (block_of m k) (block_of m₁ k) (block_of m₂ k) (p.becomes k) (q.becomes k);
}

-- the memory after a change, or where it stopped
abbrev pub changed_memory : Change Memory → Memory
changed_memory (changed m) = m
changed_memory (stopped c m) = m
