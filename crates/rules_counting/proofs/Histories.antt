-- Whatever runs, plain or watched, its memory has a history of stores, new blocks and ended blocks.
use Prim.Native.Nat.{ℕ, zero, suc, ◌≤◌}
use mathlib.Core.Path.{◌≡◌, refl, sym, ap}
use lib.IntN.{ℤ, pos, negsuc}
use Rattle.std.specs.Prelude.{Err, Ok}
use Rattle.rules.specs.Types.{Evaluated, Found, Located}
use Rattle.rules.specs.declared.{Pointer.Pointer, Value.Value, Block.Block, Recorded.Recorded, Cell.Cell, Miss.Miss}
use Rattle.rules.specs.Trees.{Statement}
use Rattle.rules.specs.TargetTrees.{TargetStatement}
use Rattle.rules.specs.Memory.{Memory, recorded_of, block_of, Change, changed, stopped, change_in, set_cell, locate, at_cell}
use Rattle.rules.specs.Memory.{store_cell, Use, fixed, freeable, Made, made, unmade, make_block, without_cells, end_block}
use Rattle.rules.specs.Memory.{assigned, store_new, new_of_size, allocated, free_of, free_at, freed}
use Rattle.rules.specs.Evaluation.{Variables, evaluate_source, find_source, evaluate_predicate, address_of, condition}
use Rattle.rules.specs.Observation.{Noted, noted, refused}
use Rattle.rules.specs.Flow.{ending}
use Rattle.rules.specs.Plain.{plain_meaning, run}
use Rattle.rules.specs.Watched.{WatchedState, with_memory, value_in, place_in, holding, taken, observed, watch}
use Rattle.rules.proofs.Runs.Keeping.{AnyNumber, AnyValue, any-test, any-evaluated, ChangeKeeps, MadeKeeps}
use Rattle.rules.proofs.Runs.Outcomes.{AnyBlock, staying, outcomes-state, change-in, made_in_lem, made_more, asserted-keeps}
use Rattle.rules.proofs.Runs.SourceRuns.{MeaningKeeps, run-reaches}
use Rattle.rules.proofs.Runs.TargetRuns.{WatchKeeps, watch-reaches, taken-keeps, operating, querying, negating}
use Rattle.rules.proofs.Runs.TargetRuns.{storing, deleting, initialising}
use Rattle.rules_counting.specs.Counting.{History, stored, block_made, block_ended}

module _ (m₀ : Memory) where
  abbrev Keeps : Change Memory → Type 0
  Keeps c = ChangeKeeps (History m₀) AnyNumber c

  abbrev KeepsMade : Made Memory → Type 0
  KeepsMade r = MadeKeeps (λ k m. History m₀ m) AnyNumber r

  store-history : {m : Memory} → History m₀ m → (p : Pointer) (v : Value) → Keeps (store_cell m p v)
  store-history {m} h p v = go (locate m p) refl
    where
      to : Located → Change Memory
      to l = at_cell (λ i. changed (set_cell m i (Cell.Holds p.name v))) (λ k. stopped k m) l

      go : (l : Located) → locate m p ≡ l → Keeps (to l)
      go (Ok i) e = stored p v h (ap to e)
      go (Err Miss.Dead) e = (tt, h)
      go (Err Miss.Outside) e = (tt, h)

  pub new-history : {m : Memory} → History m₀ m → (u : Use) (n : ℕ) → KeepsMade (make_block m u n)
  new-history {m} h u n = go (make_block m u n) refl
    where
      go : (r : Made Memory) → make_block m u n ≡ r → KeepsMade r
      go (made k m₁) e = block_made u n k h e
      go (unmade c) e = tt

  end-history : {m : Memory} → History m₀ m → (k : ℕ) → History m₀ (end_block m k)
  end-history {m} h k = go (recorded_of (block_of m k)) refl
    where
      go : (r : Recorded) → recorded_of (block_of m k) ≡ r → History m₀ (without_cells m k r)
      go Recorded.Unused e = h
      go (Recorded.Live first n) e = block_ended k first n h e (sym (ap (without_cells m k) e))
      go Recorded.Dead e = h

  -- what a statement does
  assigned-history : {m : Memory} → History m₀ m → (f : Found) (e : Evaluated) → Keeps (assigned m f e)
  assigned-history h (Err k) e = (tt, h)
  assigned-history h (Ok p) (Err k) = (tt, h)
  assigned-history h (Ok p) (Ok v) = store-history h p v

  new-stored : {m : Memory} → History m₀ m → (p : Pointer) (r : Made Memory) → KeepsMade r → Keeps (store_new m p r)
  new-stored h p (made k m₁) g = store-history g p (Value.Pointer (record { name = k; offset = pos 0 }))
  new-stored h p (unmade c) g = (tt, h)

  sized-history : {m : Memory} → History m₀ m → (p : Pointer) (z : ℤ) → Keeps (new_of_size m p z)
  sized-history h p (pos zero) = (tt, h)
  sized-history {m} h p (pos (suc n)) = new-stored h p (make_block m freeable (suc n)) (new-history h freeable (suc n))
  sized-history h p (negsuc n) = (tt, h)

  allocated-history : {m : Memory} → History m₀ m → (f : Found) (e : Evaluated) → Keeps (allocated m f e)
  allocated-history h (Err k) e = (tt, h)
  allocated-history h (Ok p) (Err k) = (tt, h)
  allocated-history h (Ok p) (Ok Value.Undefined) = (tt, h)
  allocated-history h (Ok p) (Ok (Value.Integer z)) = sized-history h p z
  allocated-history h (Ok p) (Ok (Value.Pointer q)) = (tt, h)

  free-history : {m : Memory} → History m₀ m → (k : ℕ) (b : Block) → Keeps (free_of m k b)
  free-history h k Block.Unused = (tt, h)
  free-history h k (Block.Fixed first n) = (tt, h)
  free-history h k (Block.Freeable first n) = end-history h k
  free-history h k Block.Dead = (tt, h)

  free_at-history : {m : Memory} → History m₀ m → (k : ℕ) (z : ℤ) → Keeps (free_at m k z)
  free_at-history {m} h k (pos zero) = free-history h k (block_of m k)
  free_at-history h k (pos (suc o)) = (tt, h)
  free_at-history h k (negsuc o) = (tt, h)

  freed-history : {m : Memory} → History m₀ m → (e : Evaluated) → Keeps (freed m e)
  freed-history h (Err k) = (tt, h)
  freed-history h (Ok Value.Undefined) = (tt, h)
  freed-history h (Ok (Value.Integer z)) = (tt, h)
  freed-history h (Ok (Value.Pointer p)) = free_at-history h p.name p.offset

  -- the plain run
  plain-keeps : MeaningKeeps plain_meaning (History m₀) (λ m m₁. History m₀ m₁) AnyBlock AnyNumber
  plain-keeps = record {
    onwards = staying (History m₀);
    assigns = λ p e ρ m h. assigned-history h (find_source p ρ m) (evaluate_source e ρ m);
    allocates = λ p e ρ m h. allocated-history h (find_source p ρ m) (evaluate_source e ρ m);
    frees = λ e ρ m h. freed-history h (evaluate_source e ρ m);
    asserts = λ s p ρ m f h.
        let t = condition (evaluate_predicate p ρ m) in
        asserted-keeps (History m₀) AnyNumber m t tt h (any-test t);
    decides = λ e ρ m h. any-test (condition (evaluate_source e ρ m));
    makes = λ m h.
        made_more (λ k m₁. History m₀ m₁) (λ k m₁. Unit {0} × History m₀ m₁) AnyNumber (make_block m fixed 1)
        (λ k m₁ g. (tt, g)) (new-history h fixed 1);
    ends = λ m m₁ k g h. end-history h k;
    out-of-fuel = tt;
  }

  pub plain-history : (a : Statement) (ρ : Variables) (m : Memory) (f : ℕ) → History m₀ m
      → History m₀ (ending (run a ρ m f)).state
  plain-history a ρ m f h =
      (outcomes-state (λ m₁ g. History m₀ m₁ × (g ≤ f)) AnyNumber (run a ρ m f) (run-reaches plain-keeps a ρ m f h)).0

  -- the watched run, which changes the execution memory as the plain run does
  abbrev Watched : WatchedState → Type 0
  Watched x = History m₀ x.memory

  changes : (x : WatchedState) (c : Change Memory) → Keeps c → ChangeKeeps Watched AnyNumber (change_in (with_memory x) c)
  changes x c h = change-in (History m₀) Watched AnyNumber (with_memory x) c (λ m j. j) h

  takes : (x : WatchedState) (n : ℕ) (e : Evaluated) → Watched x → ChangeKeeps Watched AnyNumber (taken x n e)
  takes x n e h = taken-keeps Watched AnyNumber AnyValue x n e h (any-evaluated e) (λ w g. h)

  notes : (x : WatchedState) (r : Noted) → Watched x → ChangeKeeps Watched AnyNumber (observed x r)
  notes x (noted o) h = h
  notes x (refused c) h = (tt, h)

  watched-keeps : WatchKeeps Watched (λ x y. Watched y) AnyBlock AnyNumber
  watched-keeps = record {
    onwards = staying Watched;
    assigns = λ p e ρ x h.
        let f = place_in p ρ x in
        let r = value_in e ρ x in
        changes x (assigned x.memory f r) (assigned-history h f r);
    allocates = λ p e ρ x h.
        let f = place_in p ρ x in
        let r = value_in e ρ x in
        changes x (allocated x.memory f r) (allocated-history h f r);
    frees = λ e ρ x h. let r = value_in e ρ x in changes x (freed x.memory r) (freed-history h r);
    takes-address = λ n p ρ x h. takes x n (address_of (place_in p ρ x)) h;
    takes-value = λ n e ρ x h. takes x n (value_in e ρ x) h;
    takes-operation = λ n q x h. takes x n (operating q n x) h;
    takes-query = λ n q x h. takes x n (querying q n x) h;
    takes-not = λ n x h. takes x n (negating n x) h;
    stores = λ n x h. notes x (storing n x) h;
    deletes = λ n x h. notes x (deleting n x) h;
    initialises = λ n x h. notes x (initialising n x) h;
    decides = λ e ρ x h. any-test (condition (value_in e ρ x));
    decides-on = λ n x h. any-test (condition (holding x n));
    makes = λ x h.
        made_in_lem (λ k m₁. History m₀ m₁) (λ k y. Unit {0} × Watched y) AnyNumber (with_memory x)
        (make_block x.memory fixed 1) (λ k m₁ g. (tt, g)) (new-history h fixed 1);
    ends = λ x y k g h. end-history h k;
    out-of-fuel = tt;
    false-assertion = tt;
  }

  pub watched-history : (a : TargetStatement) (ρ : Variables) (x : WatchedState) (f : ℕ) → Watched x
      → Watched (ending (watch a ρ x f)).state
  watched-history a ρ x f h =
      (outcomes-state (λ y g. Watched y × (g ≤ f)) AnyNumber (watch a ρ x f) (watch-reaches watched-keeps a ρ x f h)).0
