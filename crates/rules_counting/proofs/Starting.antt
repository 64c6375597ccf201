-- The free cells and the next name of the memory that a run starts with.
use Prim.Native.Nat.{ℕ, zero, suc, ◌-◌, ◌≤◌, ◌<◌}
use native.Mathlib.Omega.{arith}
use mathlib.Core.Bool.{false}
use mathlib.Core.List.{List, map}
use mathlib.Core.Path.{◌≡◌, refl}
use lib.IntN.{ℤ}
use lib.ListN.{length, replicate}
use Rattle.rules.specs.declared.{Block.Block}
use Rattle.rules.specs.Sizes.{name_count, cell_count, input_limit}
use Rattle.rules.specs.Memory.{recorded_of, block_of, is_unused, next_name, count_free, start_memory}
use Rattle.rules.proofs.Claim.Start.{start-invariant}
use Rattle.rules.proofs.Memory.Totals.{live_length, total}
use Rattle.rules_counting.specs.Counting.{name_from}
use Rattle.rules_counting.proofs.NextNames.{next-is}

unused-length : (n : ℕ) → live_length (map recorded_of (replicate n Block.Unused)) ≡ 0
unused-length zero = refl
unused-length (suc n) = omega (arith, unused-length n)

-- all but the cell of block 1 and one for each input
pub start-free : (inputs : List ℤ) → length inputs ≤ input_limit
    → count_free (start_memory inputs).cells ≡ cell_count - 1 - length inputs
unfolding start_memory
start-free inputs h =
    omega (arith, total (start_memory inputs) (start-invariant inputs h), unused-length (name_count - 2))

pub start-next : (inputs : List ℤ) → next_name (start_memory inputs) ≡ name_from 3
unfolding start_memory
start-next inputs = next-is (start_memory inputs) 3 (omega arith) (omega arith) lower (λ h. refl)
  where
    lower : (j : ℕ) → 1 ≤ j → j < 3 → is_unused (block_of (start_memory inputs) j) ≡ false
    lower zero p q = absurd (omega arith)
    lower (suc zero) p q = refl
    lower (suc (suc zero)) p q = refl
    lower (suc (suc (suc j))) p q = absurd (omega arith)
