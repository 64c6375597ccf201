-- A let's block is a fixed one of one cell from where it is made to where it ends.
use Prim.Native.Nat.{ℕ}
use native.Mathlib.Omega.{arith}
use mathlib.Core.Path.{◌≡◌, subst}
use Rattle.rules.specs.Memory.{Memory, fixed, made, make_block, make_at, next_name, free_run}
use Rattle.rules.specs.declared.{Block.Block}
use Rattle.rules.specs.Types.{Search}
use Rattle.rules.proofs.Memory.MemoryLaws.{named-set_named-same}
use Rattle.rules.proofs.Memory.Invariant.{Invariant, Onward}
use Rattle.rules.proofs.Memory.Room.{HasRoom, room}
use Rattle.rules.proofs.Runs.Keeping.{AnyNumber, MadeKeeps}
use Rattle.memory_freeing.specs.LetBlocks.{LetBlock}
use Rattle.std.specs.Prelude.{None, Some}

pub let-made : (m : Memory) (k : ℕ) (m₁ : Memory) → Invariant m → make_block m fixed 1 ≡ made k m₁ → LetBlock m₁ k
let-made m k m₁ v e =
    subst (MadeKeeps (λ j x. LetBlock x j) AnyNumber) e (go (next_name m) (free_run m 1) (room m 1))
  where
    go : (r s : Search) → HasRoom m 1 r s → MadeKeeps (λ j x. LetBlock x j) AnyNumber (make_at m fixed 1 r s)
    go None s h = tt
    go (Some j) None h = tt
    go (Some j) (Some first) h = record {
      first = first;
      is = named-set_named-same m.blocks j (Block.Fixed first 1) Block.Dead h.from (omega (arith, h.to, v.names));
    }

-- "a fixed block stays where it is", whatever runs
pub let-kept : {m m₁ : Memory} (k : ℕ) → LetBlock m k → Onward m m₁ → LetBlock m₁ k
let-kept k h o = record { first = h.first; is = rw h.is at (o.becomes k) }
