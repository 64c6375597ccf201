-- A plain run keeps the memory's invariant, however it comes out.
use Prim.Native.Nat.{ℕ, ◌≤◌}
use mathlib.Core.Path.{◌≡◌}
use Rattle.rules.specs.Types.{Block}
use Rattle.rules.specs.Trees.{Statement}
use Rattle.rules.specs.Memory.{Memory, block_of, fixed, make_block, assigned, allocated, freed}
use Rattle.rules.specs.Evaluation.{Variables, evaluate_source, find_source, evaluate_predicate, condition}
use Rattle.rules.specs.Flow.{ending}
use Rattle.rules.specs.Plain.{plain_meaning, run}
use Rattle.rules.proofs.Runs.Keeping.{AnyNumber, any-test}
use Rattle.rules.proofs.Runs.Outcomes.{Onwards, outcomes-state, asserted-keeps, made_more}
use Rattle.rules.proofs.Runs.SourceRuns.{MeaningKeeps, run-reaches}
use Rattle.rules.proofs.Memory.Invariant.{Invariant, Onward, onward-itself, onward_then}
use Rattle.rules.proofs.Memory.BlockChanges.{onward-end}
use Rattle.rules.proofs.Memory.Changes.{change-kept, Given, onward-assigned, onward-made, onward-allocated}
use Rattle.rules.proofs.Memory.Changes.{onward-freed}

-- a block that is made had an unused name
abbrev pub WasUnused : Memory → ℕ → Type 0
WasUnused m k = block_of m k ≡ Block.Unused

pub onward-runs : Onwards Invariant Onward
onward-runs = record { valid = λ r. r.invariant; itself = onward-itself; further = onward_then }

plain-meaning-keeps : MeaningKeeps plain_meaning Invariant Onward WasUnused AnyNumber
plain-meaning-keeps = record {
  onwards = onward-runs;
  assigns = λ p e ρ m v.
      let f = find_source p ρ m in
      let r = evaluate_source e ρ m in
      change-kept m (assigned m f r) (onward-assigned m f r v);
  allocates = λ p e ρ m v.
      let f = find_source p ρ m in
      let r = evaluate_source e ρ m in
      change-kept m (allocated m f r) (onward-allocated m f r v);
  frees = λ e ρ m v. let r = evaluate_source e ρ m in change-kept m (freed m r) (onward-freed m r v);
  asserts = λ s p ρ m f v.
      let t = condition (evaluate_predicate p ρ m) in
      asserted-keeps (Onward m) AnyNumber m t tt (onward-itself v) (any-test t);
  decides = λ e ρ m v. any-test (condition (evaluate_source e ρ m));
  makes = λ m v.
      made_more (Given m) (λ k m₁. WasUnused m k × Onward m m₁) AnyNumber (make_block m fixed 1)
      (λ k m₁ u. (u.0, u.1)) (onward-made m fixed 1 v);
  ends = λ m m₁ k g r. onward-end k g r;
  out-of-fuel = tt;
}

pub plain-onward : (a : Statement) (ρ : Variables) (m : Memory) (f : ℕ) → Invariant m
    → Onward m (ending (run a ρ m f)).state
plain-onward a ρ m f v =
    (outcomes-state (λ m₁ g. Onward m m₁ × (g ≤ f)) AnyNumber (run a ρ m f)
    (run-reaches plain-meaning-keeps a ρ m f v)).0
