-- Fuel never rises, in a source run over any state and in a watched run.
use Prim.Native.Nat.{ℕ, ◌≤◌}
use Rattle.rules.specs.Trees.{Statement}
use Rattle.rules.specs.TargetTrees.{TargetStatement}
use Rattle.rules.specs.Evaluation.{Variables, address_of, condition}
use Rattle.rules.specs.Flow.{ending, Meaning, run_by}
use Rattle.rules.specs.Watched.{WatchedState, value_in, place_in, holding, taken, observed, watch}
use Rattle.rules.proofs.Runs.Keeping.{AnyNumber, any-test, AnyState, any-change, any-made}
use Rattle.rules.proofs.Runs.Outcomes.{Anything, AnyBlock, anywhere, outcomes-state, made_more}
use Rattle.rules.proofs.Runs.SourceRuns.{MeaningKeeps, run-reaches}
use Rattle.rules.proofs.Runs.TargetRuns.{WatchKeeps, watch-reaches, assigning, allocating, freeing, operating}
use Rattle.rules.proofs.Runs.TargetRuns.{querying, negating, storing, deleting, initialising, making}

any-meaning : {S : Type 0} (M : Meaning S) → MeaningKeeps M AnyState Anything AnyBlock AnyNumber
any-meaning M = record {
  onwards = anywhere;
  assigns = λ p e ρ x v. any-change (M.assigns p e ρ x);
  allocates = λ p e ρ x v. any-change (M.allocates p e ρ x);
  frees = λ e ρ x v. any-change (M.frees e ρ x);
  asserts = λ s p ρ x f v. any-change (M.asserts s p ρ x f);
  decides = λ e ρ x v. any-test (M.decides e ρ x);
  makes = λ x v. made_more _ _ AnyNumber (M.makes x) (λ k y u. (tt, tt)) (any-made (M.makes x));
  ends = λ x y k g r. tt;
  out-of-fuel = tt;
}

pub run-fuel : {S : Type 0} (M : Meaning S) (a : Statement) (ρ : Variables) (x : S) (f : ℕ)
    → (ending (run_by M a ρ x f)).fuel ≤ f
run-fuel M a ρ x f =
    (outcomes-state (λ y g. Anything x y × (g ≤ f)) AnyNumber (run_by M a ρ x f)
    (run-reaches (any-meaning M) a ρ x f tt)).1

any-watch : WatchKeeps AnyState Anything AnyBlock AnyNumber
any-watch = record {
  onwards = anywhere;
  assigns = λ p e ρ x v. any-change (assigning p e ρ x);
  allocates = λ p e ρ x v. any-change (allocating p e ρ x);
  frees = λ e ρ x v. any-change (freeing e ρ x);
  takes-address = λ n p ρ x v. any-change (taken x n (address_of (place_in p ρ x)));
  takes-value = λ n e ρ x v. any-change (taken x n (value_in e ρ x));
  takes-operation = λ n q x v. any-change (taken x n (operating q n x));
  takes-query = λ n q x v. any-change (taken x n (querying q n x));
  takes-not = λ n x v. any-change (taken x n (negating n x));
  stores = λ n x v. any-change (observed x (storing n x));
  deletes = λ n x v. any-change (observed x (deleting n x));
  initialises = λ n x v. any-change (observed x (initialising n x));
  decides = λ e ρ x v. any-test (condition (value_in e ρ x));
  decides-on = λ n x v. any-test (condition (holding x n));
  makes = λ x v. made_more _ _ AnyNumber (making x) (λ k y u. (tt, tt)) (any-made (making x));
  ends = λ x y k g r. tt;
  out-of-fuel = tt;
  false-assertion = tt;
}

pub watch-fuel : (a : TargetStatement) (ρ : Variables) (x : WatchedState) (f : ℕ) → (ending (watch a ρ x f)).fuel ≤ f
watch-fuel a ρ x f =
    (outcomes-state (λ y g. Anything x y × (g ≤ f)) AnyNumber (watch a ρ x f) (watch-reaches any-watch a ρ x f tt)).1
