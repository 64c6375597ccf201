-- 02 §3: "after each step it is the number of cells of kind 0 in the execution memory", in either run.
use Prim.Native.Nat.{ℕ, ◌+◌, ◌-◌}
use native.Mathlib.Omega.{arith}
use mathlib.Core.Bool.{false}
use mathlib.Core.List.{List}
use mathlib.Core.Path.{◌≡◌, refl, sym, ap, ◌∙◌, subst}
use lib.ListN.{length}
use Rattle.rules.specs.Sizes.{cell_count}
use Rattle.rules.specs.Checker.{inputs_fault}
use Rattle.rules.specs.Trees.{Statement}
use Rattle.rules.specs.TargetTrees.{TargetStatement}
use Rattle.rules.specs.Nodes.{source_program, target_program}
use Rattle.rules.specs.Memory.{Memory, store_cell, fixed, count_free, start_memory}
use Rattle.rules.specs.Evaluation.{Variables}
use Rattle.rules.specs.Flow.{Outcome, finished, ending}
use Rattle.rules.specs.Plain.{plain_meaning, run, start_variables}
use Rattle.rules.specs.Watched.{WatchedState, watch}
use Rattle.rules.specs.Answers.{inputs_of, watched_start}
use Rattle.rules.proofs.Claim.Inputs.{inputs-few}
use Rattle.rules.proofs.Claim.Start.{start-invariant}
use Rattle.rules.proofs.Runs.Keeping.{AnyNumber, MadeKeeps}
use Rattle.rules.proofs.Memory.Invariant.{Invariant, changed_memory}
use Rattle.rules.proofs.Memory.BlockChanges.{onward-cell, end-invariant}
use Rattle.rules.proofs.Memory.Changes.{Given, onward-made}
use Rattle.rules_counting.specs.Counting.{History, begun, stored, block_made, block_ended, running, RightAt}
use Rattle.rules_counting.specs.Counting.{Starts, TargetStarts}
use Rattle.rules_counting.specs.Counting as steps
use Rattle.rules_counting.proofs.Adjusting.{Takes, new-takes, end-gives-back, store-blocks, blocks-decide}
use Rattle.rules_counting.proofs.Starting.{start-free}
use Rattle.rules_counting.proofs.Histories.{new-history, plain-history, watched-history}

-- along every history
pub history-right : {m m₂ : Memory} (h : History m m₂) → Invariant m
    → Invariant m₂ × (running (count_free m.cells) h ≡ count_free m₂.cells)
history-right begun y = (y, refl)
history-right {m} {m₂} (stored {m₁} p v h e) y =
    let r = history-right h y in
    let w : changed_memory (store_cell m₁ p v) ≡ m₂ = ap changed_memory e in
    let i : Invariant m₂ = subst Invariant w (onward-cell m₁ p v r.0).invariant in
    (i, r.1 ∙ sym (blocks-decide m₁ m₂ r.0 i (ap (λ (x : Memory). x.blocks) (sym w) ∙ store-blocks m₁ p v)))
history-right {m} {m₂} (block_made {m₁} u n k h e) y =
    let r = history-right h y in
    let t : Takes m₁ n m₂ = subst (MadeKeeps (λ k m₃. Takes m₁ n m₃) AnyNumber) e (new-takes m₁ u n r.0) in (
      (subst (MadeKeeps (Given m₁) AnyNumber) e (onward-made m₁ u n r.0)).1.invariant,
      omega (arith, r.1, t),
    )
history-right {m} {m₂} (block_ended {m₁} k first n h e q) y =
    let r = history-right h y in
    let g : count_free m₂.cells ≡ count_free m₁.cells + n =
    ap (λ (x : Memory). count_free x.cells) q ∙ end-gives-back m₁ k first n r.0 e in
    (subst Invariant (sym q) (end-invariant m₁ k r.0), omega (arith, r.1, g))

right : {m m₁ : Memory} {c : ℕ} → Invariant m → c ≡ count_free m.cells → History m m₁ → RightAt m c m₁
right {m} {m₁} y e h =
    record { history = h; value = λ g. ap (λ (k : ℕ). running k g) e ∙ (history-right g y).1 }

-- where a statement has finished, and where one starts
module _ (m₀ : Memory) where
  plain-finished : (a : Statement) (ρ : Variables) (m : Memory) (f : ℕ) {m₁ : Memory} {f₁ : ℕ} → run a ρ m f ≡ finished m₁ f₁
      → History m₀ m → History m₀ m₁
  plain-finished a ρ m f e h =
      subst (History m₀) (ap (λ (o : Outcome Memory). (ending o).state) e) (plain-history m₀ a ρ m f h)

  plain-start : {b : Statement} {σ : Variables} {m₁ : Memory} {g : ℕ} {a : Statement} {ρ : Variables} {m : Memory} {f : ℕ}
      → Starts plain_meaning b σ m₁ g a ρ m f → History m₀ m → History m₀ m₁
  plain-start steps.itself h = h
  plain-start (steps.first s) h = plain-start s h
  plain-start (steps.second {a = a} {ρ = ρ} {x = m} {f = f} e s) h = plain-start s (plain-finished a ρ m f e h)
  plain-start (steps.yes e s) h = plain-start s h
  plain-start (steps.no e s) h = plain-start s h
  plain-start (steps.turn e s) h = plain-start s h
  plain-start (steps.again {a = a} {ρ = ρ} {x = m} {f = f} d e s) h = plain-start s (plain-finished a ρ m f e h)
  plain-start (steps.inside e s) h =
      plain-start s (subst (MadeKeeps (λ k m₁. History m₀ m₁) AnyNumber) e (new-history m₀ h fixed 1))

  watched-finished : (a : TargetStatement) (ρ : Variables) (x : WatchedState) (f : ℕ) {y : WatchedState} {g : ℕ}
      → watch a ρ x f ≡ finished y g → History m₀ x.memory → History m₀ y.memory
  watched-finished a ρ x f e h =
      subst (History m₀) (ap (λ (o : Outcome WatchedState). (ending o).state.memory) e) (watched-history m₀ a ρ x f h)

  watched-start : {b : TargetStatement} {σ : Variables} {y : WatchedState} {g : ℕ} {a : TargetStatement} {ρ : Variables}
      {x : WatchedState} {f : ℕ} → TargetStarts b σ y g a ρ x f → History m₀ x.memory → History m₀ y.memory
  watched-start steps.itself h = h
  watched-start (steps.first s) h = watched-start s h
  watched-start (steps.second {a = a} {ρ = ρ} {x = x} {f = f} e s) h = watched-start s (watched-finished a ρ x f e h)
  watched-start (steps.yes e s) h = watched-start s h
  watched-start (steps.no e s) h = watched-start s h
  watched-start (steps.yes_on e s) h = watched-start s h
  watched-start (steps.no_on e s) h = watched-start s h
  watched-start (steps.turn e s) h = watched-start s h
  watched-start (steps.again {a = a} {ρ = ρ} {x = x} {f = f} d e s) h = watched-start s (watched-finished a ρ x f e h)
  watched-start (steps.inside e s) h =
      watched-start s (subst (MadeKeeps (λ k m₁. History m₀ m₁) AnyNumber) e (new-history m₀ h fixed 1))

-- from the start of a run on inputs i: "1,024 cells", less one for block 1 and one for each input
module _ (t i : List ℕ) (f : ℕ) (e : inputs_fault i ≡ false) where
  abbrev start : Memory
  start = start_memory (inputs_of i)

  abbrev Right : Memory → Type 0
  Right m = RightAt start (cell_count - 1 - length (inputs_of i)) m

  from_start : {m : Memory} → History start m → Right m
  from_start h =
      right (start-invariant (inputs_of i) (inputs-few i e)) (sym (start-free (inputs_of i) (inputs-few i e))) h

  -- where each statement of a plain run starts, and where it comes out
  pub plain-counted : {b : Statement} {σ : Variables} {m : Memory} {g : ℕ}
      → Starts plain_meaning b σ m g (source_program t) start_variables start f
      → Right m × Right (ending (run b σ m g)).state
  plain-counted {b} {σ} {m} {g} s =
      let h = plain-start start s begun in
      (from_start h, from_start (plain-history start b σ m g h))

  -- and of a watched run, of hand-made targets too
  pub watched-counted : {b : TargetStatement} {σ : Variables} {x : WatchedState} {g : ℕ}
      → TargetStarts b σ x g (target_program t) start_variables (watched_start (inputs_of i)) f
      → Right x.memory × Right (ending (watch b σ x g)).state.memory
  watched-counted {b} {σ} {x} {g} s =
      let h = watched-start start s begun in
      (from_start h, from_start (watched-history start b σ x g h))
