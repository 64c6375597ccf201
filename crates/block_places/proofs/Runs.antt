-- The lowest run of n free places, where no place from i on, below i + n, is held.
use Rattle.std.proofs.Common.{ℕ, ◌+◌, ◌≤◌, ◌<◌, ◌≡◌, refl, Bool, true, Some, arith}
use Rattle.rules.specs.Sizes.{cell_count}
use Rattle.rules.specs.Memory.{lowest_run}
use Rattle.rules.proofs.Lists.RunLaws.{NoRunBelow, run-found}

pub run-free : (p : ℕ → Bool) (n i : ℕ) → NoRunBelow p n i → i + n ≤ cell_count
    → ((k : ℕ) → i ≤ k → k < i + n → p k ≡ true) → Some i ≡ lowest_run p n
run-free p n i s h f =
    run-found p n i s h
    (record { free = record { further = omega arith; within = omega arith; passed = f }; stopped = λ d. absurd (d refl) })
    refl
