-- From what the parts of a statement with parts do to what it does.
use Prim.Native.Nat.{ℕ, suc, ◌-◌, ◌<◌, ◌≤◌}
use native.Mathlib.Decide.{ℕ_discrete}
use native.Mathlib.Omega.{arith}
use mathlib.Core.List.{List, []}
use mathlib.Core.Path.{◌≡◌, refl, sym, ap, ◌∙◌, subst}
use Rattle.std.specs.Prelude.{Option, Some, None, Result, Ok, Err, true}
use Rattle.rules.specs.Records.{kind_of, mark_of, child_a, child_b, child_c}
use Rattle.rules.specs.Memory.{Memory, stopped, fixed, Made, make_block, end_block}
use Rattle.rules.specs.Trees.{Statement}
use Rattle.rules.specs.Evaluation.{Variables, evaluate_source, condition, extend}
use Rattle.rules.specs.Flow.{Outcome, finished, ended, into, next, decide, in_let}
use Rattle.rules.specs.Plain.{plain_meaning, run}
use Rattle.rules.specs.Layout.{memory_of}
use Rattle.rules.specs.Types.{Test}
use Rattle.rules.specs.Nodes.{expression_at, statement_at}
use Rattle.rules.specs.declared.{Progress.Progress, Stop.Stop}
use Rattle.rules.proofs.Runs.Fuel.{run-fuel}
use Rattle.rules.proofs.Runs.PlainArms.{run-sequence, run-branch, run-while-zero, run-while-suc, run-let}
use Rattle.rules.proofs.Memory.Invariant.{Invariant}
use Rattle.rules.proofs.Memory.PlainKept.{plain-onward}
use Rattle.memory_cells.specs.Changes.{Becomes}
use Rattle.memory_blocks.specs.Blocks.{making_of, made_memory}
use Rattle.memory_freeing.specs.LetBlocks.{LetBlock}
use Rattle.memory_freeing.proofs.LetBlockLaws.{let-kept}
use Rattle.run_endings.specs.Ending.{Ended}
use Rattle.run_children.specs.Children.{first_of, rest_of}
use Rattle.run_children.proofs.Sequences.{first-is, first-self, first_alone, rest-is, rest-nothing}
use Rattle.run_changes.specs.Changing.{Does}
use Rattle.run_changes.proofs.ChangeLaws.{becomes-is, becomes-then, made_by, unmade-by}
use Rattle.plain_runs.specs.Running.{Ready, enclosed, EndsSo, Ran}
use Rattle.plain_runs.proofs.Laws.{ends-is, ends-into, ends-then, ends-stopped, finished-fuel}
use Rattle.plain_runs.proofs.ReadyLaws.{LeftReady, ready-rest}

-- however p comes out from the bytes b on, so does o from a on
abbrev pub Leads : Outcome Memory → List ℕ → Outcome Memory → List ℕ → Type 0
Leads o a p b = (r : Ended) (c : List ℕ) → EndsSo p r b c → EndsSo o r a c

-- what is left to run, if anything
abbrev pub run_left : List ℕ → Option ℕ → Variables → Memory → ℕ → Outcome Memory
run_left t (Some k) ρ m f = run (statement_at t k) ρ m f
run_left t None ρ m f = finished m f

-- statement n, run from the bytes of entry on, has come to those of l: so much is left of it
pub record Left (t : List ℕ) (n : ℕ) (ρ : Variables) (entry : List ℕ) (fuel : ℕ) (left : Option ℕ) (l : List ℕ) (f : ℕ)
    : Type 0 where
  pub leads : Leads (run (statement_at t n) ρ (memory_of entry) fuel) entry (run_left t left ρ (memory_of l) f) l
  pub ready : LeftReady t n left

-- statement m is left: its first part runs
module _ {t : List ℕ} {n : ℕ} {ρ : Variables} {entry : List ℕ} {fuel : ℕ} {left : Option ℕ} {l : List ℕ} {f m : ℕ}
    (h : Left t n ρ entry fuel left l f) (e : left ≡ Some m) where
  pub left_ready : Ready t m × (m ≤ n)
  left_ready = rw e at h.ready

  leading : Leads (run (statement_at t n) ρ (memory_of entry) fuel) entry (run (statement_at t m) ρ (memory_of l) f) l
  leading = rw e at h.leads

  module _ {x : ℕ} (i : x ≡ first_of t m) (p : Progress) {l₁ : List ℕ} where
    pub left-goes : Ran (run (statement_at t x) ρ (memory_of l) f) (Ok tt) p l l₁ → {next : Option ℕ}
        → next ≡ rest_of t m → Left t n ρ entry fuel next l₁ p.fuel
    left-goes w {next} j = record {
      leads = λ r c v. leading r c (by r c v (ℕ_discrete (kind_of t m) 44));
      ready = rw j (ready-rest left_ready.0 left_ready.1);
    }
      where
        by : (r : Ended) (c : List ℕ) → EndsSo (run_left t next ρ (memory_of l₁) p.fuel) r l₁ c
            → Dec (kind_of t m ≡ 44) → EndsSo (run (statement_at t m) ρ (memory_of l) f) r l c
        by r c v (yes q) =
            ends-is (run-sequence t m left_ready.0.is ρ (memory_of l) f q)
            (ends-then 0 _ p _ (rw (i, first-is t m q) at w) (ends-into 1 _ (rw (j, rest-is t m q) at v)))
        by r c v (no d) =
            let u : Ran (run (statement_at t m) ρ (memory_of l) f) (Ok tt) p l l₁ = rw (i, first-self t m d) at w in
            let g : EndsSo (finished (memory_of l₁) p.fuel) r l₁ c = rw (j, rest-nothing t m d) at v in
            record {
              answer = g.answer ∙ u.answer;
              memory = becomes-is u.memory.view (becomes-then u.memory g.memory);
            }

    -- where nothing follows, its outcome is that of all
    pub left-ends : {next : Option ℕ} → next ≡ rest_of t m → next ≡ None → (r : Result Unit Stop)
        → Ran (run (statement_at t x) ρ (memory_of l) f) r p l l₁
        → Ran (run (statement_at t n) ρ (memory_of entry) fuel) r p entry l₁
    left-ends j z r w = leading _ _ (rw (i, first_alone t m (sym j ∙ z)) at w)

    pub left-stops : {c : Stop} → Ran (run (statement_at t x) ρ (memory_of l) f) (Err c) p l l₁
        → Ran (run (statement_at t n) ρ (memory_of entry) fuel) (Err c) p entry l₁
    left-stops {c} w = leading _ _ (by (ℕ_discrete (kind_of t m) 44))
      where
        by : Dec (kind_of t m ≡ 44) → Ran (run (statement_at t m) ρ (memory_of l) f) (Err c) p l l₁
        by (yes q) =
            ends-is (run-sequence t m left_ready.0.is ρ (memory_of l) f q)
            (ends-stopped 0 _ p _ c (rw (i, first-is t m q) at w))
        by (no d) = rw (i, first-self t m d) at w

module _ {t : List ℕ} {n : ℕ} (ρ : Variables) (h : Ready t n) where
  abbrev condition_in : Memory → Test
  condition_in m₁ = condition (evaluate_source (expression_at t (child_a t n)) ρ m₁)

  -- a branch
  pub branch_by : kind_of t n ≡ 45 → (m : Memory) (f : ℕ) (x : Test) → x ≡ condition_in m
      → run (statement_at t n) ρ m f
      ≡ decide n ρ x m f (into 1 (run (statement_at t (child_b t n)) ρ m f))
      (into 2 (run (statement_at t (child_c t n)) ρ m f))
  branch_by q m f x e = rw e (run-branch t n h.is ρ m f q)

  -- a turn of a while, in memory m
  module _ (q : kind_of t n ≡ 46) (m : Memory) (f : ℕ) where
    pub turn_by : 0 < f → (x : Test) → x ≡ condition_in m
        → run (statement_at t n) ρ m f
        ≡ decide n ρ x m (f - 1) (next (into 1 (run (statement_at t (child_b t n)) ρ m (f - 1)))
        (λ m₂ f₁. run (statement_at t n) ρ m₂ f₁)) (finished m (f - 1))
    turn_by z x e =
        let d : f ≡ suc (f - 1) = omega arith in
        ap (λ (g : ℕ). run (statement_at t n) ρ m g) d ∙ rw e (run-while-suc t n h.is q ρ m (f - 1))

    pub turn-out : f ≤ 0 → run (statement_at t n) ρ m f ≡ ended Stop.NoFuel n ρ [] m f
    turn-out z =
        let d : f ≡ 0 = omega arith in
        rw d (run-while-zero t n h.is q ρ m)

  -- a turn that ran, with its condition true
  module _ (q : kind_of t n ≡ 46) (l : List ℕ) (f : ℕ) (z : 0 < f) (y : Ok true ≡ condition_in (memory_of l))
      (p : Progress) {l₁ : List ℕ} where
    pub turn-goes : Ran (run (statement_at t (child_b t n)) ρ (memory_of l) (f - 1)) (Ok tt) p l l₁
        → Leads (run (statement_at t n) ρ (memory_of l) f) l (run (statement_at t n) ρ (memory_of l₁) p.fuel) l₁
    turn-goes w r c v = ends-is (turn_by q (memory_of l) f z (Ok true) y) (ends-then 1 _ p _ w v)

    pub turn-stops : {c : Stop} → Ran (run (statement_at t (child_b t n)) ρ (memory_of l) (f - 1)) (Err c) p l l₁
        → Ran (run (statement_at t n) ρ (memory_of l) f) (Err c) p l l₁
    turn-stops {c} w = ends-is (turn_by q (memory_of l) f z (Ok true) y) (ends-stopped 1 _ p _ c w)

    pub turn-spends : Ran (run (statement_at t (child_b t n)) ρ (memory_of l) (f - 1)) (Ok tt) p l l₁ → p.fuel < f
    turn-spends w =
        omega (
          arith,
          finished-fuel _ p w,
          run-fuel plain_meaning (statement_at t (child_b t n)) ρ (memory_of l) (f - 1),
        )

  -- a let, by the making of its block in memory l
  module _ (q : kind_of t n ≡ 47) (l : List ℕ) (f : ℕ) where
    abbrev block : Made Memory
    block = make_block (memory_of l) fixed 1

    let_by : (x : Made Memory) → block ≡ x
        → run (statement_at t n) ρ (memory_of l) f
        ≡ in_let n ρ (memory_of l) f x end_block
        (λ k m₁ f₁. into 0 (run (statement_at t (child_a t n)) (extend ρ (mark_of t n) k) m₁ f₁))
    let_by x e = rw (← e) (run-let t n h.is ρ (memory_of l) f q)

    pub let-made : {l₁ : List ℕ} {k : ℕ} → Becomes l l₁ (made_memory (memory_of l) block) → Ok k ≡ making_of block
        → run (statement_at t n) ρ (memory_of l) f ≡ enclosed t n ρ (memory_of l₁) f k
    let-made {k = k} w e =
        let_by _ (made_by block k (memory_of l) e) ∙ ap (λ (m : Memory). enclosed t n ρ m f k) (sym w.view)

    pub let-unmade : {c : Stop} → Err c ≡ making_of block
        → run (statement_at t n) ρ (memory_of l) f ≡ ended c n ρ [] (memory_of l) f
    let-unmade {c} e = let_by _ (unmade-by block c e)

-- a block that could not be made changes nothing
pub does-unmade : (x : Made Memory) (c : Stop) {l l₁ : List ℕ} → Becomes l l₁ (made_memory (memory_of l) x)
    → Err c ≡ making_of x → Does (stopped c (memory_of l)) (Err c) l l₁
does-unmade x c {l} w e =
    record { result = refl; memory = becomes-is (ap (made_memory (memory_of l)) (unmade-by x c e)) w }

-- a let's block is still one, whatever ran
pub inside-block : (x : Statement) (ρ : Variables) (f : ℕ) {k : ℕ} {r : Ended} {a b : List ℕ}
    → EndsSo (run x ρ (memory_of a) f) r a b → Invariant (memory_of a) → LetBlock (memory_of a) k
    → LetBlock (memory_of b) k
inside-block x ρ f {k} {a = a} w v h =
    subst (λ (m : Memory). LetBlock m k) (sym w.memory.view) (let-kept k h (plain-onward x ρ (memory_of a) f v))
