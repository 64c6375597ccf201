-- From what the parts of a statement with parts do to what it does.
use Prim.Native.Nat.{ℕ, suc, ◌-◌, ◌<◌, ◌≤◌}
use native.Mathlib.Decide.{ℕ_discrete}
use native.Mathlib.Omega.{arith}
use mathlib.Core.List.{List}
use mathlib.Core.Logic.{inl, inr}
use mathlib.Core.Path.{◌≡◌, sym, ap, ◌∙◌, subst}
use Rattle.std.specs.Prelude.{Option, Some, None, true, false, Ok, Err, IsErrAnd}
use Rattle.std.proofs.lemmas.Result.{err_from_is_err_and}
use Rattle.rules.specs.Records.{kind_of, mark_of, child_a, child_b, child_c}
use Rattle.rules.specs.Memory.{Memory, fixed, Made, unmade, made_in, make_block, end_block}
use Rattle.rules.specs.Flow.{Outcome, finished, into, next, decide, in_let}
use Rattle.rules.specs.TargetTrees.{TargetStatement}
use Rattle.rules.specs.Evaluation.{Variables, condition, extend}
use Rattle.rules.specs.Watched.{WatchedState, with_memory, value_in, watch}
use Rattle.rules.specs.Layout.{memory_of}
use Rattle.rules.specs.Nodes.{target_expression_at, target_statement_at, number_at}
use Rattle.rules.specs.Types.{Test}
use Rattle.rules.specs.declared.{Stop.Stop}
use Rattle.rules.proofs.Runs.TargetRuns.{closing}
use Rattle.rules.proofs.Runs.TargetArms.{watch-sequence, watch-branch, watch-branch-on, watch-while-zero}
use Rattle.rules.proofs.Runs.TargetArms.{watch-while-suc, watch-let}
use Rattle.rules.proofs.Memory.Invariant.{Invariant}
use Rattle.rules.proofs.Memory.WatchedKept.{watched-onward}
use Rattle.memory_cells.specs.Changes.{Becomes}
use Rattle.memory_blocks.specs.Blocks.{making_of, made_memory}
use Rattle.memory_freeing.specs.LetBlocks.{LetBlock}
use Rattle.memory_freeing.proofs.LetBlockLaws.{let-kept}
use Rattle.evaluation_temporaries.specs.Bytes.{temporaries_of}
use Rattle.run_endings.specs.declared.Stopped.{Stopped}
use Rattle.run_endings.specs.Ending.{Ended, stopped_at}
use Rattle.run_children.specs.Children.{first_of, rest_of}
use Rattle.run_children.proofs.Sequences.{first-is, first-self, rest-is, rest-nothing}
use Rattle.run_changes.proofs.ChangeLaws.{made_by, unmade-by}
use Rattle.watched_choices.specs.Branches.{IsBranch, choice}
use Rattle.watched_choices.proofs.Choices.{choice-on, choice-of}
use Rattle.watched_statements.specs.Watching.{Lent, lent, state_of, watch_from, Ready, enclosed, Ran, Runs}
use Rattle.watched_statements.proofs.Laws.{ran-finished, ran-ended, ran-memory, ran-stopped, ran-is}
use Rattle.watched_statements.proofs.Laws.{ran-into, ran-from, next-goes, next-stays}
use Rattle.watched_statements.proofs.ReadyLaws.{sequence-parts, ready-second}

module _ {t : List ℕ} {n : ℕ} (ρ : Variables) (h : Ready t n) where
  abbrev part : ℕ → WatchedState → ℕ → Outcome WatchedState
  part k y g = watch (target_statement_at t k) ρ y g

  -- a branch, by a condition or by a temporary
  abbrev chosen_in : Lent → Test
  chosen_in x = choice t n (temporaries_of x.temporaries) ρ (memory_of x.memory)

  abbrev deciding : Lent → ℕ → Test → Outcome WatchedState
  deciding x f y =
      decide (number_at t n) ρ y (state_of x) f (into 1 (part (child_b t n) (state_of x) f))
      (into 2 (part (child_c t n) (state_of x) f))

  branch-is : IsBranch (kind_of t n) → (x : Lent) (f : ℕ) (y : Test) → chosen_in x ≡ y
      → watch_from (target_statement_at t n) ρ x f ≡ deciding x f y
  branch-is (inl e) x f y d =
      watch-branch t n h.is ρ (state_of x) f e
      ∙ ap (deciding x f)
      (choice-of t n (temporaries_of x.temporaries) ρ (memory_of x.memory) (λ k. omega (arith, e, k)) ∙ d)
  branch-is (inr e) x f y d =
      watch-branch-on t n h.is ρ (state_of x) f e
      ∙ ap (deciding x f) (choice-on t n (temporaries_of x.temporaries) ρ (memory_of x.memory) e ∙ d)

  module _ (q : IsBranch (kind_of t n)) {x y : Lent} (f : ℕ) where
    pub branch-then : {r : Ended} → chosen_in x ≡ Ok true → Runs t (child_b t n) ρ f r x y → Runs t n ρ f r x y
    branch-then d w = ran-is (branch-is q x f (Ok true) d) (ran-into 1 (part (child_b t n) (state_of x) f) w)

    pub branch-else : {r : Ended} → chosen_in x ≡ Ok false → Runs t (child_c t n) ρ f r x y → Runs t n ρ f r x y
    branch-else d w = ran-is (branch-is q x f (Ok false) d) (ran-into 2 (part (child_c t n) (state_of x) f) w)

  pub branch-stops : IsBranch (kind_of t n) → (x : Lent) (f : ℕ) (c : Stop) → chosen_in x ≡ Err c
      → Runs t n ρ f (Err (stopped_at c (number_at t n) f)) x x
  branch-stops q x f c d = ran-is (branch-is q x f (Err c) d) (ran-ended x c (number_at t n) ρ f)

  -- a turn of a while, from the bytes x
  abbrev condition_in : Lent → Test
  condition_in x = condition (value_in (target_expression_at t (child_a t n)) ρ (state_of x))

  abbrev body : Lent → ℕ → Outcome WatchedState
  body x f = into 1 (part (child_b t n) (state_of x) f)

  abbrev turning : Lent → ℕ → Test → Outcome WatchedState
  turning x f y =
      decide (number_at t n) ρ y (state_of x) f (next (body x f) (λ w g. part n w g)) (finished (state_of x) f)

  turn-is : kind_of t n ≡ 46 → (x : Lent) (f : ℕ) → 0 < f → (y : Test) → condition_in x ≡ y
      → watch_from (target_statement_at t n) ρ x f ≡ turning x (f - 1) y
  turn-is q x f p y e =
      let d : f ≡ suc (f - 1) = omega arith in
      ap (λ (k : ℕ). watch_from (target_statement_at t n) ρ x k) d
      ∙ watch-while-suc t n h.is q ρ (state_of x) (f - 1)
      ∙ ap (turning x (f - 1)) e

  module _ (q : kind_of t n ≡ 46) {x y : Lent} (f : ℕ) (p : 0 < f) where
    pub turn-goes : {g : ℕ} {r : Ended} {z : Lent} → condition_in x ≡ Ok true
        → Runs t (child_b t n) ρ (f - 1) (Ok g) x y → Runs t n ρ g r y z → Runs t n ρ f r x z
    turn-goes e w v =
        ran-is (turn-is q x f p (Ok true) e)
        (next-goes (body x (f - 1)) (λ w g. part n w g) (ran-into 1 (part (child_b t n) (state_of x) (f - 1)) w) v)

    pub turn-stays : {c : Stopped} → condition_in x ≡ Ok true → Runs t (child_b t n) ρ (f - 1) (Err c) x y
        → Runs t n ρ f (Err c) x y
    turn-stays e w =
        ran-is (turn-is q x f p (Ok true) e)
        (next-stays (body x (f - 1)) (λ w g. part n w g) (ran-into 1 (part (child_b t n) (state_of x) (f - 1)) w))

  module _ (q : kind_of t n ≡ 46) (x : Lent) (f : ℕ) where
    pub turn-ends : 0 < f → condition_in x ≡ Ok false → Runs t n ρ f (Ok (f - 1)) x x
    turn-ends p e = ran-is (turn-is q x f p (Ok false) e) (ran-finished x (f - 1))

    pub turn-fails : 0 < f → (c : Stop) → condition_in x ≡ Err c
        → Runs t n ρ f (Err (stopped_at c (number_at t n) (f - 1))) x x
    turn-fails p c e = ran-is (turn-is q x f p (Err c) e) (ran-ended x c (number_at t n) ρ (f - 1))

    pub turn-out : f ≤ 0 → Runs t n ρ f (Err (stopped_at Stop.NoFuel (number_at t n) 0)) x x
    turn-out p =
        let d : f ≡ 0 = omega arith in
        rw d (ran-is (watch-while-zero t n h.is q ρ (state_of x)) (ran-ended x Stop.NoFuel (number_at t n) ρ 0))

  -- a sequence, by its children
  abbrev first_child : Lent → ℕ → Outcome WatchedState
  first_child x f = into 0 (part (child_a t n) (state_of x) f)

  abbrev second_child : WatchedState → ℕ → Outcome WatchedState
  second_child w g = into 1 (part (child_b t n) w g)

  module _ (q : kind_of t n ≡ 44) {x y : Lent} (f : ℕ) where
    sequence-goes : {g : ℕ} {r : Ended} {z : Lent} → Runs t (child_a t n) ρ f (Ok g) x y
        → Runs t (child_b t n) ρ g r y z → Runs t n ρ f r x z
    sequence-goes {g} w v =
        ran-is (watch-sequence t n h.is ρ (state_of x) f q)
        (next-goes (first_child x f) second_child (ran-into 0 (part (child_a t n) (state_of x) f) w)
        (ran-into 1 (part (child_b t n) (state_of y) g) v))

    sequence-stays : {c : Stopped} → Runs t (child_a t n) ρ f (Err c) x y → Runs t n ρ f (Err c) x y
    sequence-stays w =
        ran-is (watch-sequence t n h.is ρ (state_of x) f q)
        (next-stays (first_child x f) second_child (ran-into 0 (part (child_a t n) (state_of x) f) w))

  -- what it runs first ends it
  pub first-stays : (f : ℕ) {c : Stopped} {x y : Lent} → Runs t (first_of t n) ρ f (Err c) x y
      → Runs t n ρ f (Err c) x y
  first-stays f {c} {x} {y} w = by (ℕ_discrete (kind_of t n) 44)
    where
      by : Dec (kind_of t n ≡ 44) → Runs t n ρ f (Err c) x y
      by (yes q) = sequence-stays q f (rw (first-is t n q) at w)
      by (no d) = rw (first-self t n d) at w

-- of statement n statement m is left to run
pub record Rest (t : List ℕ) (n : ℕ) (ρ : Variables) (entry : Lent) (fuel m : ℕ) (x : Lent) (left : ℕ) : Type 0 where
  pub ready : Ready t m
  pub within : m ≤ n
  pub ends : {r : Ended} {y : Lent} → Runs t m ρ left r x y → Runs t n ρ fuel r entry y

-- or nothing is
abbrev pub Remaining : List ℕ → ℕ → Variables → Lent → ℕ → Option ℕ → Lent → ℕ → Type 0
Remaining t n ρ entry fuel None x left = Runs t n ρ fuel (Ok left) entry x
Remaining t n ρ entry fuel (Some m) x left = Rest t n ρ entry fuel m x left

-- how many records are left
abbrev pub height : Option ℕ → ℕ
height None = 0
height (Some m) = suc m

module _ {t : List ℕ} {n : ℕ} {ρ : Variables} {entry : Lent} {fuel m : ℕ} {x : Lent} {left : ℕ}
    (e : Rest t n ρ entry fuel m x left) where
  pub goes-on : {g : ℕ} {y : Lent} → Runs t (first_of t m) ρ left (Ok g) x y
      → Remaining t n ρ entry fuel (rest_of t m) y g × (height (rest_of t m) < suc m)
  goes-on {g} {y} w = by (ℕ_discrete (kind_of t m) 44)
    where
      by : Dec (kind_of t m ≡ 44) → Remaining t n ρ entry fuel (rest_of t m) y g × (height (rest_of t m) < suc m)
      by (yes q) =
          let part = (sequence-parts e.ready q).1 in
          rw (rest-is t m q) (
            record {
              ready = ready-second e.ready q;
              within = omega (arith, part.1, e.within);
              ends = λ v. e.ends (sequence-goes ρ e.ready q left (rw (first-is t m q) at w) v);
            },
            omega (arith, part.1),
          )
      by (no d) = rw (rest-nothing t m d) (e.ends (rw (first-self t m d) at w), omega arith)

  pub stays : {c : Stopped} {y : Lent} → Runs t (first_of t m) ρ left (Err c) x y → Runs t n ρ fuel (Err c) entry y
  stays w = e.ends (first-stays ρ e.ready left w)

  -- k being what it runs first
  module _ {k : ℕ} (i : k ≡ first_of t m) {y : Lent} where
    pub left-falls : {g : ℕ} {next then : Option ℕ} → next ≡ Some m → then ≡ rest_of t m
        → Runs t k ρ left (Ok g) x y → height then < height next
    left-falls s j w = rw (s, j) (goes-on (rw i at w)).1

    pub left-goes : {g : ℕ} {then : Option ℕ} → then ≡ rest_of t m → Runs t k ρ left (Ok g) x y
        → Remaining t n ρ entry fuel then y g
    left-goes j w = rw j (goes-on (rw i at w)).0

    pub left-stops : {c : Stopped} (r : Ended) → IsErrAnd r (λ z. z ≡ c) → Runs t k ρ left (Err c) x y
        → Runs t n ρ fuel r entry y
    left-stops r q w =
        let p = err_from_is_err_and r q in
        rw (p.1, p.2) (stays (rw i at w))

-- a let, and its block, made in memory
module _ {t : List ℕ} {n : ℕ} (ρ : Variables) (h : Ready t n) (x : Lent) (q : kind_of t n ≡ 47) (f : ℕ) where
  abbrev block : Made Memory
  block = make_block (memory_of x.memory) fixed 1

  let-is : (y : Made Memory) → block ≡ y
      → watch_from (target_statement_at t n) ρ x f
      ≡ in_let (number_at t n) ρ (state_of x) f (made_in (with_memory (state_of x)) y) closing
      (λ k y g. into 0 (watch (target_statement_at t (child_a t n)) (extend ρ (mark_of t n) k) y g))
  let-is y e = rw (sym e) (watch-let t n h.is ρ (state_of x) f q)

  module _ {l : List ℕ} (w : Becomes x.memory l (made_memory (memory_of x.memory) block)) where
    pub let-made : {k : ℕ} {r : Ended} {y : Lent} → Ok k ≡ making_of block
        → Ran (enclosed t n ρ (lent l x.observation x.temporaries) f k) r (lent l x.observation x.temporaries) y
        → Runs t n ρ f r x y
    let-made {k} e v =
        ran-is (let-is _ (made_by block k (memory_of x.memory) e)) (ran-from (ran-memory x f w) (rw w.view at v))

    pub let-unmade : (c : Stop) → Err c ≡ making_of block
        → Runs t n ρ f (Err (stopped_at c (number_at t n) f)) x (lent l x.observation x.temporaries)
    let-unmade c e =
        let u = unmade-by block c e in
        ran-is (let-is (unmade c) u) (ran-stopped x c (number_at t n) ρ f (rw u at w))

-- a let's block is still one, whatever ran
pub inside-block : (s : TargetStatement) (ρ : Variables) (k : ℕ) {r : Ended} {x y : Lent} (f : ℕ)
    → Ran (watch_from s ρ x f) r x y → Invariant (memory_of x.memory) → LetBlock (memory_of x.memory) k
    → LetBlock (memory_of y.memory) k
inside-block s ρ k {r} {x} f w v h =
    subst (λ (m : Memory). LetBlock m k) (sym w.memory.view) (let-kept k h (watched-onward s ρ (state_of x) f v))

-- a let's child ran: where it finished, the block ends
module _ (t : List ℕ) (n : ℕ) (ρ : Variables) (k : ℕ) (x : Lent) (f : ℕ) where
  abbrev child : Outcome WatchedState
  child = watch_from (target_statement_at t (child_a t n)) (extend ρ (mark_of t n) k) x f

  abbrev closed : WatchedState → ℕ → Outcome WatchedState
  closed w g = finished (closing w k) g

  pub inside-ends : {y : Lent} {g : ℕ} {l : List ℕ} → Ran child (Ok g) x y
      → Becomes y.memory l (end_block (memory_of y.memory) k)
      → Ran (enclosed t n ρ x f k) (Ok g) x (lent l y.observation y.temporaries)
  inside-ends {y} {g} w v = next-goes (into 0 child) closed (ran-into 0 child w) (ran-memory y g v)

  pub inside-stays : {y : Lent} {c : Stopped} → Ran child (Err c) x y → Ran (enclosed t n ρ x f k) (Err c) x y
  inside-stays w = next-stays (into 0 child) closed (ran-into 0 child w)
