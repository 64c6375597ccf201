-- 02 §2: a run of an accepted table ends 42 only where the block of the pointer that it used is dead, and 50 only where
-- it is live and the offset is negative or not below its length, in the memory that the run leaves.
use Prim.Native.Nat.{ℕ}
use native.Mathlib.Omega.{arith}
use mathlib.Core.Bool.{false}
use mathlib.Core.List.{List}
use mathlib.Core.Option.{none}
use mathlib.Core.Path.{◌≡◌}
use Rattle.std.specs.Prelude.{Ok}
use Rattle.rules.specs.declared.{Stop.Stop}
use Rattle.rules.specs.Trees.{Statement, let_in}
use Rattle.rules.specs.TargetTrees.{TargetStatement}
use Rattle.rules.specs.TargetTrees as tree
use Rattle.rules.specs.Kinds.{source, target}
use Rattle.rules.specs.Nodes.{source_program, target_program}
use Rattle.rules.specs.Memory.{Memory, fixed, make_block, start_memory, assigned}
use Rattle.rules.specs.Memory.{allocated, freed}
use Rattle.rules.specs.Evaluation.{Variables, no_temporaries, address_of, evaluate_source, find_source, evaluate_predicate}
use Rattle.rules.specs.Evaluation.{condition, extend}
use Rattle.rules.specs.Flow.{parts, ending}
use Rattle.rules.specs.Plain.{plain_meaning, start_variables}
use Rattle.rules.specs.Watched.{target_parts, WatchedState, temporary_of, with_memory, value_in, place_in, holding}
use Rattle.rules.specs.Checker.{check, inputs_fault}
use Rattle.rules.specs.Answers.{inputs_of, plain_outcome, watched_start, watched_outcome}
use Rattle.rules.proofs.Runs.Outcomes.{made_in_lem}
use Rattle.rules.proofs.Runs.TargetRuns.{operating, querying, negating, storing, deleting, initialising}
use Rattle.rules.proofs.Runs.EndedAt.{EndsAt, ends-map, SourceEnds, run-ends-at, TargetEnds}
use Rattle.rules.proofs.Runs.EndedAt.{watch-ends-at}
use Rattle.rules.proofs.Memory.Changes.{onward-assigned, onward-allocated, onward-freed}
use Rattle.rules.proofs.Memory.PlainKept.{plain-onward}
use Rattle.rules.proofs.Memory.WatchedKept.{watched-onward}
use Rattle.rules.proofs.Claim.Inputs.{inputs-few}
use Rattle.rules.proofs.Claim.Start.{start-invariant}
use Rattle.rules.proofs.Claim.GivenPointers.{plain-given, watched-given}
use Rattle.rules_endings.specs.UsedPointers.{used_by, used_to, used_by_predicate, used_in, used_in_target, ToldApart}
use Rattle.rules_endings.proofs.UsedLaws.{VariablesNamed, PointersNamed, other, Tells}
use Rattle.rules_endings.proofs.UsedLaws.{evaluate-told, find_place-told, address-told, condition-told, decided-by}
use Rattle.rules_endings.proofs.UsedLaws.{any_value, predicate-told}
use Rattle.rules_endings.proofs.UsedChanges.{assigned-told, allocated-told, freed-told}
use Rattle.rules_endings.proofs.NamedPointers.{Started, started-on, let-started, start-named}
use Rattle.rules_endings.proofs.NamedPointers.{cells-named, temporaries-named}
use Rattle.rules_endings.proofs.StatementsTold.{change-told, test-told, asserted-told, Pointed, WatchStarted}
use Rattle.rules_endings.proofs.StatementsTold.{changes-told, taken-told, observed-told, given-told}
use Rattle.rules_endings.proofs.StatementsTold.{operating-silent, querying-silent, negating-silent}
use Rattle.rules_endings.proofs.StatementsTold.{storing-silent, deleting-silent, initialising-silent}
use Rattle.rules_endings.proofs.StatementsTold.{deciding-silent, value-told}

-- what a plain run's ending tells at statement b
abbrev pub PlainTold : Statement → Stop → ℕ → Variables → Memory → Type 0
PlainTold b c s ρ m = ToldApart c m (used_in b ρ m)

-- where every pointer has a name that was given, and the variables' do
abbrev PlainKept : Statement → Stop → ℕ → Variables → Memory → Type 0
PlainKept b c s ρ m = VariablesNamed ρ m × (PointersNamed no_temporaries ρ m → PlainTold b c s ρ m)

plain-told : SourceEnds plain_meaning Started PlainKept
plain-told = record {
  keeps = λ a ρ m f j. started-on ρ (plain-onward a ρ m f j.0) j;
  assigns = λ s p e ρ m j.
      let f = find_source p ρ m in
      let r = evaluate_source e ρ m in
      change-told ρ _ m (assigned m f r) (onward-assigned m f r j.0) j.1 (assigned-told no_temporaries ρ p e m);
  allocates = λ s p e ρ m j.
      let f = find_source p ρ m in
      let r = evaluate_source e ρ m in
      change-told ρ _ m (allocated m f r) (onward-allocated m f r j.0) j.1
      (allocated-told no_temporaries ρ p e m j.0);
  frees = λ s e ρ m j.
      let r = evaluate_source e ρ m in
      change-told ρ _ m (freed m r) (onward-freed m r j.0) j.1 (freed-told no_temporaries ρ e m);
  asserts = λ s p ρ m f j.
      let u = used_by_predicate p ρ m in
      let r = evaluate_predicate p ρ m in
      asserted-told (λ c x. VariablesNamed ρ x × Tells no_temporaries ρ x (used_by_predicate p ρ x) c) m (condition r)
      (j.1, λ n. other m u Stop.FalseAssertion (omega arith) (omega arith))
      (test-told (Tells no_temporaries ρ m u) (condition r) j.1
      (condition-told no_temporaries ρ m u r (predicate-told ρ m p)));
  branches = λ s e a b ρ m j.
      test-told (Tells no_temporaries ρ m (used_by e no_temporaries ρ m)) (condition (evaluate_source e ρ m)) j.1
      (decided-by no_temporaries ρ m e);
  turns-on = λ s e b ρ m j.
      test-told (Tells no_temporaries ρ m (used_by e no_temporaries ρ m)) (condition (evaluate_source e ρ m)) j.1
      (decided-by no_temporaries ρ m e);
  out-of-fuel = λ s e b ρ m j.
      (j.1, λ n. other m (used_by e no_temporaries ρ m) Stop.NoFuel (omega arith) (omega arith));
  makes = λ s z b ρ m j.
      let-started (λ c. PlainKept (let_in s z b) c s ρ m) ρ z m j
      (j.1, λ n. other m none Stop.NamesGiven (omega arith) (omega arith))
      (j.1, λ n. other m none Stop.NoRun (omega arith) (omega arith));
}

-- every accepted source table
pub plain-dead-or-outside : (t i : List ℕ) (f : ℕ) → check source t ≡ Ok tt → inputs_fault i ≡ false
    → EndsAt parts PlainTold (source_program t) (plain_outcome t i f)
plain-dead-or-outside t i f c e =
    ends-map parts PlainKept PlainTold (source_program t) (plain_outcome t i f)
    (λ b k s ρ h. h.1 (record {
      cells = cells-named (ending (plain_outcome t i f)).state (plain-given t i f c e);
      temporaries = λ t. elim t [ ];
      variables = h.0;
    }))
    (run-ends-at plain-told (source_program t) start_variables (start_memory (inputs_of i)) f
    (start-invariant (inputs_of i) (inputs-few i e), start-named (inputs_of i)))

-- what a watched run's ending tells
abbrev pub WatchedTold : TargetStatement → Stop → ℕ → Variables → WatchedState → Type 0
WatchedTold b c s ρ x = ToldApart c x.memory (used_in_target b ρ x)

abbrev WatchedKept : TargetStatement → Stop → ℕ → Variables → WatchedState → Type 0
WatchedKept b c s ρ x = VariablesNamed ρ x.memory × (Pointed ρ x → WatchedTold b c s ρ x)

watched-told : TargetEnds WatchStarted WatchedKept
watched-told = record {
  keeps = λ a ρ x f j. started-on ρ (watched-onward a ρ x f j.0) j;
  assigns = λ s p e ρ x j.
      let m = x.memory in
      let c = assigned m (place_in p ρ x) (value_in e ρ x) in
      changes-told (λ k y. WatchedKept (tree.assign s p e) k s ρ y) x c
      (change-told ρ _ m c (onward-assigned m (place_in p ρ x) (value_in e ρ x) j.0) j.1
      (assigned-told (temporary_of x.temporaries) ρ p e m));
  allocates = λ s p e ρ x j.
      let m = x.memory in
      let c = allocated m (place_in p ρ x) (value_in e ρ x) in
      changes-told (λ k y. WatchedKept (tree.new s p e) k s ρ y) x c
      (change-told ρ _ m c (onward-allocated m (place_in p ρ x) (value_in e ρ x) j.0) j.1
      (allocated-told (temporary_of x.temporaries) ρ p e m j.0));
  frees = λ s e ρ x j.
      let m = x.memory in
      let c = freed m (value_in e ρ x) in
      changes-told (λ k y. WatchedKept (tree.free s e) k s ρ y) x c
      (change-told ρ _ m c (onward-freed m (value_in e ρ x) j.0) j.1
      (freed-told (temporary_of x.temporaries) ρ e m));
  branches = λ s e a b ρ x j. value-told ρ x j e;
  turns-on = λ s e b ρ x j. value-told ρ x j e;
  out-of-fuel = λ s e b ρ x j.
      (j.1, λ n. other x.memory (used_in_target (tree.while s e b) ρ x) Stop.NoFuel (omega arith) (omega arith));
  makes = λ s z b ρ x j.
      made_in_lem (λ k m. Started (extend ρ z k) m) (λ k y. WatchStarted (extend ρ z k) y)
      (λ c. WatchedKept (tree.let_in s z b) c s ρ x) (with_memory x) (make_block x.memory fixed 1) (λ k m h. h)
      (let-started (λ c. WatchedKept (tree.let_in s z b) c s ρ x) ρ z x.memory j
      (j.1, λ n. other x.memory none Stop.NamesGiven (omega arith) (omega arith))
      (j.1, λ n. other x.memory none Stop.NoRun (omega arith) (omega arith)));
  takes-address = λ s n p ρ x j.
      let τ = temporary_of x.temporaries in
      let u = used_to p τ ρ x.memory in
      let r = address_of (place_in p ρ x) in
      taken-told (λ c y. WatchedKept (tree.take_address s n p) c s ρ y) x n r
      (given-told (Tells τ ρ x.memory u) r j.1
      (any_value τ ρ x.memory u r
      (address-told τ ρ x.memory (place_in p ρ x) u (find_place-told τ ρ x.memory p))));
  takes-value = λ s n e ρ x j.
      let τ = temporary_of x.temporaries in
      let u = used_by e τ ρ x.memory in
      taken-told (λ c y. WatchedKept (tree.take_value s n e) c s ρ y) x n (value_in e ρ x)
      (given-told (Tells τ ρ x.memory u) (value_in e ρ x) j.1
      (any_value τ ρ x.memory u (value_in e ρ x) (evaluate-told τ ρ x.memory e)));
  takes-operation = λ s n q ρ x j.
      taken-told (λ c y. WatchedKept (tree.take_operation s n q) c s ρ y) x n (operating q n x)
      (operating-silent ρ x j q n);
  takes-query = λ s n q ρ x j.
      taken-told (λ c y. WatchedKept (tree.take_query s n q) c s ρ y) x n (querying q n x)
      (querying-silent ρ x j q n);
  takes-not = λ s n ρ x j.
      taken-told (λ c y. WatchedKept (tree.take_not s n) c s ρ y) x n (negating n x) (negating-silent ρ x j n);
  branches-on = λ s n a b ρ x j. deciding-silent ρ x j n;
  asserts-on = λ s n ρ x j.
      asserted-told (λ c y. WatchedKept (tree.assert_on s n) c s ρ y) x (condition (holding x n))
      (j.1, λ k. other x.memory none Stop.FalseAssertion (omega arith) (omega arith)) (deciding-silent ρ x j n);
  stores = λ s n ρ x j.
      observed-told (λ c y. WatchedKept (tree.store_block s n) c s ρ y) x (storing n x) (storing-silent ρ x j n);
  deletes = λ s n ρ x j.
      observed-told (λ c y. WatchedKept (tree.delete_block s n) c s ρ y) x (deleting n x) (deleting-silent ρ x j n);
  initialises = λ s n ρ x j.
      observed-told (λ c y. WatchedKept (tree.initialise s n) c s ρ y) x (initialising n x)
      (initialising-silent ρ x j n);
}

-- every accepted target table, a hand-made one too
pub watched-dead-or-outside : (t i : List ℕ) (f : ℕ) → check target t ≡ Ok tt → inputs_fault i ≡ false
    → EndsAt target_parts WatchedTold (target_program t) (watched_outcome t i f)
watched-dead-or-outside t i f c e =
    let x = (ending (watched_outcome t i f)).state in
    let given = watched-given t i f c e in
    ends-map target_parts WatchedKept WatchedTold (target_program t) (watched_outcome t i f)
    (λ b k s ρ h. h.1 (record {
      cells = cells-named x.memory given.0;
      temporaries = temporaries-named x.memory x.temporaries given.1;
      variables = h.0;
    }))
    (watch-ends-at watched-told (target_program t) start_variables (watched_start (inputs_of i)) f
    (start-invariant (inputs_of i) (inputs-few i e), start-named (inputs_of i)))
