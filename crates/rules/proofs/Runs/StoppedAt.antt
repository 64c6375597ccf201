-- The path that an ended outcome tells leads to the statement whose number it tells, in every run.
use Prim.Native.Nat.{ℕ}
use mathlib.Core.Path.{◌≡◌, refl}
use Rattle.std.specs.Prelude.{Err, Ok, true, false}
use Rattle.rules.specs.Types.{Test, Stop}
use Rattle.rules.specs.Trees.{Statement, skip, assign, new, free, sequence, branch, while, let_in, assert}
use Rattle.rules.specs.TargetTrees.{TargetStatement}
use Rattle.rules.specs.TargetTrees as target
use Rattle.rules.specs.Memory.{Change, changed, stopped, Made, made, unmade}
use Rattle.rules.specs.Evaluation.{Variables, address_of, condition}
use Rattle.rules.specs.Flow.{parts, Meaning, run_by}
use Rattle.rules.specs.Plain.{asserted}
use Rattle.rules.specs.Watched.{target_parts, WatchedState, value_in, place_in, holding, taken, observed, watch}
use Rattle.rules.proofs.Runs.Keeping.{AnyState, TestStops, MadeKeeps}
use Rattle.rules.proofs.Runs.TargetRuns.{assigning, allocating, freeing, operating, querying, negating, storing}
use Rattle.rules.proofs.Runs.TargetRuns.{deleting, initialising, making}
use Rattle.rules.proofs.Runs.EndedAt.{ChangeStops, EndsAt, SourceEnds, run-ends-at, TargetEnds, watch-ends-at}

-- the number of a statement
abbrev pub number_of : Statement → ℕ
number_of (skip s) = s
number_of (assign s p e) = s
number_of (new s p e) = s
number_of (free s e) = s
number_of (sequence s a b) = s
number_of (branch s e a b) = s
number_of (while s e b) = s
number_of (let_in s x b) = s
number_of (assert s p) = s

abbrev pub target_number : TargetStatement → ℕ
target_number (target.skip s) = s
target_number (target.assign s p e) = s
target_number (target.new s p e) = s
target_number (target.free s e) = s
target_number (target.sequence s a b) = s
target_number (target.branch s e a b) = s
target_number (target.while s e b) = s
target_number (target.let_in s x b) = s
target_number (target.take_address s n p) = s
target_number (target.take_value s n e) = s
target_number (target.take_operation s n o) = s
target_number (target.take_query s n q) = s
target_number (target.take_not s n) = s
target_number (target.branch_on s n a b) = s
target_number (target.assert_on s n) = s
target_number (target.store_block s n) = s
target_number (target.delete_block s n) = s
target_number (target.initialise s n) = s

-- the statement has the number that is told
abbrev pub Numbered : {A S : Type 0} → (A → ℕ) → A → Stop → ℕ → Variables → S → Type 0
Numbered number a c s ρ x = number a ≡ s

-- whatever it stops with
module _ {P : Type 0} (h : P) where
  any-change : {S : Type 0} (c : Change S) → ChangeStops (λ k x. P) c
  any-change (changed x) = tt
  any-change (stopped k x) = h

  any-test : (t : Test) → TestStops (λ c. P) t
  any-test (Ok true) = tt
  any-test (Ok false) = tt
  any-test (Err c) = h

  any-made : {S : Type 0} (r : Made S) → MadeKeeps (λ k y. AnyState y) (λ c. P) r
  any-made (made k x) = tt
  any-made (unmade c) = h

module _ {S : Type 0} (M : Meaning S) where
  numbered-source : SourceEnds M (λ ρ. AnyState) (Numbered number_of)
  numbered-source = record {
    keeps = λ a ρ x f j. tt;
    assigns = λ s p e ρ x j. any-change refl (M.assigns p e ρ x);
    allocates = λ s p e ρ x j. any-change refl (M.allocates p e ρ x);
    frees = λ s e ρ x j. any-change refl (M.frees e ρ x);
    asserts = λ s p ρ x f j. any-change refl (M.asserts s p ρ x f);
    branches = λ s e a b ρ x j. any-test refl (M.decides e ρ x);
    turns-on = λ s e b ρ x j. any-test refl (M.decides e ρ x);
    out-of-fuel = λ s e b ρ x j. refl;
    makes = λ s z b ρ x j. any-made refl (M.makes x);
  }

  pub run-stops-at : (a : Statement) (ρ : Variables) (x : S) (f : ℕ)
      → EndsAt parts (Numbered number_of) a (run_by M a ρ x f)
  run-stops-at a ρ x f = run-ends-at numbered-source a ρ x f tt

numbered_target : TargetEnds (λ ρ. AnyState) (Numbered target_number)
numbered_target = record {
  keeps = λ a ρ x f j. tt;
  assigns = λ s p e ρ x j. any-change refl (assigning p e ρ x);
  allocates = λ s p e ρ x j. any-change refl (allocating p e ρ x);
  frees = λ s e ρ x j. any-change refl (freeing e ρ x);
  branches = λ s e a b ρ x j. any-test refl (condition (value_in e ρ x));
  turns-on = λ s e b ρ x j. any-test refl (condition (value_in e ρ x));
  out-of-fuel = λ s e b ρ x j. refl;
  makes = λ s z b ρ x j. any-made refl (making x);
  takes-address = λ s n p ρ x j. any-change refl (taken x n (address_of (place_in p ρ x)));
  takes-value = λ s n e ρ x j. any-change refl (taken x n (value_in e ρ x));
  takes-operation = λ s n q ρ x j. any-change refl (taken x n (operating q n x));
  takes-query = λ s n q ρ x j. any-change refl (taken x n (querying q n x));
  takes-not = λ s n ρ x j. any-change refl (taken x n (negating n x));
  branches-on = λ s n a b ρ x j. any-test refl (condition (holding x n));
  asserts-on = λ s n ρ x j. any-change refl (asserted x (condition (holding x n)));
  stores = λ s n ρ x j. any-change refl (observed x (storing n x));
  deletes = λ s n ρ x j. any-change refl (observed x (deleting n x));
  initialises = λ s n ρ x j. any-change refl (observed x (initialising n x));
}

pub watch-stops-at : (a : TargetStatement) (ρ : Variables) (x : WatchedState) (f : ℕ)
    → EndsAt target_parts (Numbered target_number) a (watch a ρ x f)
watch-stops-at a ρ x f = watch-ends-at numbered_target a ρ x f tt
