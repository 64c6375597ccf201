-- The block of a let.
use Rattle.std.specs.Prelude.{ℕ, ◌≡◌}
use Rattle.rules.specs.Memory.{Memory, block_of}
use Rattle.rules.specs.declared.{Block.Block}

-- a name's block is a fixed one, of one cell
pub record LetBlock (m : Memory) (name : ℕ) : Type 0 where
  pub first : ℕ
  pub is : block_of m name ≡ Block.Fixed first 1
