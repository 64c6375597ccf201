-- Which numbers a run ends with: those of `plain_endings`, a watched one those of `watched_endings`.
use Prim.Native.Nat.{ℕ, suc}
use mathlib.Core.List.{List}
use mathlib.Core.Bool.{false}
use mathlib.Core.Path.{◌≡◌, refl}
use Rattle.std.specs.Prelude.{Err, None, Some}
use Rattle.rules.specs.Types.{Value, Evaluated, Temporary, stop_number}
use Rattle.rules.specs.Trees.{Statement, Expression, Place}
use Rattle.rules.specs.Trees as tree
use Rattle.rules.specs.TargetTrees.{TargetStatement}
use Rattle.rules.specs.Memory.{Memory, Change, change_in, fixed, make_block, assigned, allocated, freed}
use Rattle.rules.specs.Evaluation.{Variables, no_temporaries, held, evaluate, find_place, address_of}
use Rattle.rules.specs.Evaluation.{evaluate_source, find_source, evaluate_predicate, condition}
use Rattle.rules.specs.Observation.{Observation, Noted, record_of, query_observation, is_marked}
use Rattle.rules.specs.Flow.{Outcome, finished, ended, ending}
use Rattle.rules.specs.Plain.{plain_meaning, run}
use Rattle.rules.specs.Watched.{Temporaries, temporary_of, WatchedState, with_memory, value_in, place_in, holding}
use Rattle.rules.specs.Watched.{taken, observed, watch}
use Rattle.rules.specs.Answers.{is_in, evaluation_endings, temporary_endings, plain_endings, watched_endings}
use Rattle.rules.proofs.Lists.Among.{StopsAmong, among-not}
use Rattle.rules.proofs.Runs.Keeping.{AnyValue, AnyState, AnyMade, Gives}
use Rattle.rules.proofs.Runs.Keeping.{on_value_lem, on-pointer, ChangeKeeps}
use Rattle.rules.proofs.Runs.EvaluationEndings.{EvaluatedAmong, FoundAmong, evaluate-among, find_place-among}
use Rattle.rules.proofs.Runs.EvaluationEndings.{operated-among, address_of-among, opposite-among}
use Rattle.rules.proofs.Runs.EvaluationEndings.{queried-among, evaluate_predicate-among}
use Rattle.rules.proofs.Runs.ChangeEndings.{plainly, watchedly, ends-evaluated, ends-condition, ends-assigned}
use Rattle.rules.proofs.Runs.ChangeEndings.{ends-make_block, ends-allocated, ends-freed}
use Rattle.rules.proofs.Runs.Outcomes.{Reaches, Anything, AnyBlock, anywhere, asserted-keeps, change-in, made_in_lem}
use Rattle.rules.proofs.Runs.Outcomes.{made_more}
use Rattle.rules.proofs.Runs.SourceRuns.{MeaningKeeps, run-reaches}
use Rattle.rules.proofs.Runs.TargetRuns.{NotedKeeps, WatchKeeps, watch-reaches, taken-keeps, observed-keeps}
use Rattle.rules.proofs.Runs.TargetRuns.{operating, querying, negating, storing, deleting, initialising, asked_in}
use Rattle.rules.proofs.Runs.Calls.{store-called, delete-called, initialise-called}

-- what a run may end with
abbrev pub EndsAmong : {S : Type 0} → List ℕ → Outcome S → Type 0
EndsAmong l (finished x f) = Unit {0}
EndsAmong l (ended c s ρ w x f) = StopsAmong l c

reached-among : {S : Type 0} (l : List ℕ) (x : S) (f : ℕ) (o : Outcome S) → Reaches Anything (StopsAmong l) x f o
    → EndsAmong l o
reached-among l x f (finished y g) h = tt
reached-among l x f (ended c s ρ w y g) h = h.0

-- the plain run
source-among : (e : Expression ⊥) (ρ : Variables) (m : Memory)
    → EvaluatedAmong AnyValue evaluation_endings (evaluate_source e ρ m)
source-among e ρ m =
    evaluate-among AnyValue (λ z. tt) (λ p. tt) evaluation_endings plainly.enough e no_temporaries
    (λ t. elim t [ ]) ρ m

source-found : (p : Place ⊥) (ρ : Variables) (m : Memory) → FoundAmong evaluation_endings (find_source p ρ m)
source-found p ρ m =
    find_place-among AnyValue (λ z. tt) (λ p. tt) evaluation_endings plainly.enough p no_temporaries
    (λ t. elim t [ ]) ρ m

plain-ends : MeaningKeeps plain_meaning AnyState Anything AnyBlock (StopsAmong plain_endings)
plain-ends = record {
  onwards = anywhere;
  assigns = λ p e ρ m v.
      ends-assigned plainly m (find_source p ρ m) (evaluate_source e ρ m) (source-found p ρ m) (source-among e ρ m);
  allocates = λ p e ρ m v.
      ends-allocated plainly m (find_source p ρ m) (evaluate_source e ρ m) (source-found p ρ m) (source-among e ρ m);
  frees = λ e ρ m v. ends-freed plainly m (evaluate_source e ρ m) (source-among e ρ m);
  asserts = λ s p ρ m f v.
      asserted-keeps AnyState (StopsAmong plain_endings) m (condition (evaluate_predicate p ρ m)) refl tt
      (ends-condition plainly (evaluate_predicate p ρ m)
      (evaluate_predicate-among AnyValue (λ z. tt) (λ p. tt) evaluation_endings plainly.enough p ρ m));
  decides = λ e ρ m v. ends-condition plainly (evaluate_source e ρ m) (source-among e ρ m);
  makes = λ m v.
      made_more AnyMade (λ k m₁. Unit {0} × Unit {0}) (StopsAmong plain_endings) (make_block m fixed 1)
      (λ k m₁ u. (tt, tt)) (ends-make_block plainly m fixed 1);
  ends = λ m m₁ k g r. tt;
  out-of-fuel = refl;
}

pub run-endings : (a : Statement) (ρ : Variables) (m : Memory) (f : ℕ) → EndsAmong plain_endings (run a ρ m f)
run-endings a ρ m f = reached-among plain_endings m f (run a ρ m f) (run-reaches plain-ends a ρ m f tt)

-- the watched run
held-among : (t : Temporary) → EvaluatedAmong AnyValue temporary_endings (held t)
held-among None = refl
held-among (Some v) = tt

target-among : (e : Expression ℕ) (τ : Temporaries) (ρ : Variables) (m : Memory)
    → EvaluatedAmong AnyValue temporary_endings (evaluate e (temporary_of τ) ρ m)
target-among e τ ρ m =
    evaluate-among AnyValue (λ z. tt) (λ p. tt) temporary_endings watchedly.enough e (temporary_of τ)
    (λ t. held-among (temporary_of τ t)) ρ m

target_found : (p : Place ℕ) (τ : Temporaries) (ρ : Variables) (m : Memory)
    → FoundAmong temporary_endings (find_place p (temporary_of τ) ρ m)
target_found p τ ρ m =
    find_place-among AnyValue (λ z. tt) (λ p. tt) temporary_endings watchedly.enough p (temporary_of τ)
    (λ t. held-among (temporary_of τ t)) ρ m

held-ends : (x : WatchedState) (n : ℕ) → Gives AnyValue (StopsAmong watched_endings) (holding x n)
held-ends x n = ends-evaluated watchedly (holding x n) (held-among (temporary_of x.temporaries n))

query-among : (q : tree.Query) (o : Observation) (v : Value)
    → EvaluatedAmong AnyValue temporary_endings (query_observation q o v)
query-among q o v =
    on-pointer (EvaluatedAmong AnyValue temporary_endings) (StopsAmong temporary_endings) Err (λ c x. x) AnyValue
    v _ refl tt (λ p u.
    queried-among AnyValue (λ z. tt) (λ p. tt) temporary_endings watchedly.enough q (record_of o p.name)
    (λ i. is_marked o i) p)

changes-end : (x : WatchedState) (c : Change Memory) → ChangeKeeps AnyState (StopsAmong watched_endings) c
    → ChangeKeeps AnyState (StopsAmong watched_endings) (change_in (with_memory x) c)
changes-end x c h = change-in AnyState AnyState (StopsAmong watched_endings) (with_memory x) c (λ m j. tt) h

taken-ends : (x : WatchedState) (n : ℕ) (e : Evaluated) → EvaluatedAmong AnyValue temporary_endings e
    → ChangeKeeps AnyState (StopsAmong watched_endings) (taken x n e)
taken-ends x n e h =
    taken-keeps AnyState (StopsAmong watched_endings) AnyValue x n e tt (ends-evaluated watchedly e h) (λ v g. tt)

observed-ends : (x : WatchedState) (r : Noted) → NotedKeeps AnyState (StopsAmong watched_endings) r
    → ChangeKeeps AnyState (StopsAmong watched_endings) (observed x r)
observed-ends x r h = observed-keeps AnyState (StopsAmong watched_endings) AnyState x r tt h (λ o g. tt)

watch-ends : WatchKeeps AnyState Anything AnyBlock (StopsAmong watched_endings)
watch-ends = record {
  onwards = anywhere;
  assigns = λ p e ρ x v.
      changes-end x (assigned x.memory (place_in p ρ x) (value_in e ρ x))
      (ends-assigned watchedly x.memory (place_in p ρ x) (value_in e ρ x)
      (target_found p x.temporaries ρ x.memory) (target-among e x.temporaries ρ x.memory));
  allocates = λ p e ρ x v.
      changes-end x (allocated x.memory (place_in p ρ x) (value_in e ρ x))
      (ends-allocated watchedly x.memory (place_in p ρ x) (value_in e ρ x)
      (target_found p x.temporaries ρ x.memory) (target-among e x.temporaries ρ x.memory));
  frees = λ e ρ x v.
      changes-end x (freed x.memory (value_in e ρ x))
      (ends-freed watchedly x.memory (value_in e ρ x) (target-among e x.temporaries ρ x.memory));
  takes-address = λ n p ρ x v.
      taken-ends x n (address_of (place_in p ρ x))
      (address_of-among AnyValue (λ z. tt) (λ p. tt) temporary_endings watchedly.enough (place_in p ρ x)
      (target_found p x.temporaries ρ x.memory));
  takes-value = λ n e ρ x v. taken-ends x n (value_in e ρ x) (target-among e x.temporaries ρ x.memory);
  takes-operation = λ n q x v.
      taken-ends x n (operating q n x)
      (operated-among AnyValue (λ z. tt) (λ p. tt) temporary_endings watchedly.enough (asked_in x) q
      (holding x (suc n)) (holding x (suc (suc n))) (held-among (temporary_of x.temporaries (suc n)))
      (held-among (temporary_of x.temporaries (suc (suc n)))));
  takes-query = λ n q x v.
      taken-ends x n (querying q n x)
      (on_value_lem (EvaluatedAmong AnyValue temporary_endings) (StopsAmong temporary_endings) Err (λ c y. y)
      (holding x (suc n)) _ (held-among (temporary_of x.temporaries (suc n)))
      (λ w u. query-among q x.observation w));
  takes-not = λ n x v.
      taken-ends x n (negating n x)
      (on_value_lem (EvaluatedAmong AnyValue temporary_endings) (StopsAmong temporary_endings) Err (λ c y. y)
      (holding x (suc n)) _ (held-among (temporary_of x.temporaries (suc n)))
      (λ w u. opposite-among AnyValue (λ z. tt) (λ p. tt) temporary_endings watchedly.enough w));
  stores = λ n x v.
      observed-ends x (storing n x)
      (store-called AnyState (StopsAmong watched_endings) refl refl x.observation (holding x n)
      (holding x (suc n)) (held-ends x n) (held-ends x (suc n)) (λ k l first y z. tt));
  deletes = λ n x v.
      observed-ends x (deleting n x)
      (delete-called AnyState (StopsAmong watched_endings) refl refl x.observation (holding x n) (held-ends x n)
      (λ k first l y. tt));
  initialises = λ n x v.
      observed-ends x (initialising n x)
      (initialise-called AnyState (StopsAmong watched_endings) refl refl x.observation (holding x n)
      (held-ends x n) (λ p i y. tt));
  decides = λ e ρ x v. ends-condition watchedly (value_in e ρ x) (target-among e x.temporaries ρ x.memory);
  decides-on = λ n x v. ends-condition watchedly (holding x n) (held-among (temporary_of x.temporaries n));
  makes = λ x v.
      made_in_lem AnyMade (λ k y. Unit {0} × Unit {0}) (StopsAmong watched_endings) (with_memory x)
      (make_block x.memory fixed 1) (λ k m u. (tt, tt)) (ends-make_block watchedly x.memory fixed 1);
  ends = λ x y k g r. tt;
  out-of-fuel = refl;
  false-assertion = refl;
}

pub watch-endings : (a : TargetStatement) (ρ : Variables) (x : WatchedState) (f : ℕ)
    → EndsAmong watched_endings (watch a ρ x f)
watch-endings a ρ x f = reached-among watched_endings x f (watch a ρ x f) (watch-reaches watch-ends a ρ x f tt)

-- "0 finished (statement 0)"; else the number is one of the endings
pub ending-zero : {S : Type 0} (l : List ℕ) (o : Outcome S) → is_in 0 l ≡ false → EndsAmong l o → (ending o).number ≡ 0
    → (ending o).statement ≡ 0
ending-zero l (finished x f) d h e = refl
ending-zero l (ended c s ρ w x f) d h e = absurd (among-not l (stop_number c) 0 d h e)
