-- What a statement that runs no other does, by what its parts answer.
use Prim.Native.Nat.{ℕ, ◌<◌, ◌≤◌}
use native.Mathlib.Omega.{arith}
use native.Mathlib.Decide.{ℕ_discrete}
use mathlib.Core.List.{List}
use mathlib.Core.Logic.{◌≢◌, ◌⊎◌, inl, inr}
use mathlib.Core.Path.{◌≡◌, refl, sym, ap, ◌∙◌}
use Rattle.std.specs.Prelude.{true, false, Result, Ok, Err}
use Rattle.rules.specs.Kinds.{statement, target}
use Rattle.rules.specs.Records.{kind_of, mark_of, child_c}
use Rattle.rules.specs.Memory.{Memory, Change, changed, stopped, change_in}
use Rattle.rules.specs.Evaluation.{Variables}
use Rattle.rules.specs.Observation.{Noted, noted, refused}
use Rattle.rules.specs.Flow.{Outcome, after}
use Rattle.rules.specs.Plain.{asserted}
use Rattle.rules.specs.Watched.{WatchedState, with_memory, taken, observed, watch}
use Rattle.rules.specs.Types.{Evaluated, Test}
use Rattle.rules.specs.declared.{Stop.Stop}
use Rattle.rules.specs.Nodes.{HasSort, target_statement_at, number_at}
use Rattle.rules.proofs.Runs.TargetFields.{statement-kinds}
use Rattle.rules.proofs.Runs.TargetArms.{watch-operation, watch-query, watch-not, watch-store-block, watch-delete-block}
use Rattle.observation.specs.Calls.{Answers}
use Rattle.observation.proofs.Becoming as observation
use Rattle.run_endings.specs.Ending.{concluded, asserted_true}
use Rattle.run_changes.specs.Changing.{Does}
use Rattle.run_changes.proofs.ChangeLaws.{becomes-same}
use Rattle.watched_steps.specs.Steps.{Takes, IsTake, taken_of}
use Rattle.watched_noting.specs.Calls.{IsNote, note_of}
use Rattle.watched_statements.specs.Watching.{Lent, lent, state_of, watch_from, IsAct, Ready, Acts}
use Rattle.watched_statements.proofs.Laws.{ran-is, ran-finished, ran-ended}

-- it comes out as what it answered
told : (s f : ℕ) {r q : Result Unit Stop} → r ≡ q → concluded r s f ≡ concluded q s f
told s f e = ap (λ (p : Result Unit Stop). concluded p s f) e

-- the outcome by a change of the memory, a value for a temporary, a call, and an assertion
module _ {t : List ℕ} {n : ℕ} (h : Ready t n) (ρ : Variables) where
  -- so statement n changes the state
  abbrev Changes : Lent → Change WatchedState → Type 0
  Changes x c = (f : ℕ) → watch_from (target_statement_at t n) ρ x f ≡ after (number_at t n) ρ f c

  pub acts-change : (c : Change Memory) {r : Result Unit Stop} {l l₁ o τ : List ℕ} → Does c r l l₁
      → Changes (lent l o τ) (change_in (with_memory (state_of (lent l o τ))) c)
      → Acts t n ρ r (lent l o τ) (lent l₁ o τ)
  acts-change (changed m) {o = o} w e f = ran-is (e f) (record {
    answer = told (number_at t n) f w.result;
    memory = w.memory;
    observation = observation.becomes-same o;
    temporaries = refl;
  })
  acts-change (stopped k m) {o = o} w e f = ran-is (e f) (record {
    answer = told (number_at t n) f w.result;
    memory = w.memory;
    observation = observation.becomes-same o;
    temporaries = refl;
  })

  pub acts-taken : (k : ℕ) (v : Evaluated) {r : Result Unit Stop} {l o τ τ₁ : List ℕ} → Takes τ τ₁ r k v
      → Changes (lent l o τ) (taken (state_of (lent l o τ)) k v)
      → Acts t n ρ r (lent l o τ) (lent l o τ₁)
  acts-taken k (Ok v) {o = o} w e f = ran-is (e f) (record {
    answer = told (number_at t n) f w.result;
    memory = becomes-same refl;
    observation = observation.becomes-same o;
    temporaries = w.temporaries;
  })
  acts-taken k (Err c) {o = o} w e f = ran-is (e f) (record {
    answer = told (number_at t n) f w.result;
    memory = becomes-same refl;
    observation = observation.becomes-same o;
    temporaries = w.temporaries;
  })

  pub acts-observed : (z : Noted) {r : Result Unit Stop} {l o o₁ τ : List ℕ} → Answers o o₁ r z
      → Changes (lent l o τ) (observed (state_of (lent l o τ)) z)
      → Acts t n ρ r (lent l o τ) (lent l o₁ τ)
  acts-observed (noted x) w e f = ran-is (e f) (record {
    answer = told (number_at t n) f w.answer;
    memory = becomes-same refl;
    observation = w.memory;
    temporaries = refl;
  })
  acts-observed (refused c) w e f = ran-is (e f) (record {
    answer = told (number_at t n) f w.answer;
    memory = becomes-same refl;
    observation = w.memory;
    temporaries = refl;
  })

  pub acts-asserted : (v : Test) {r : Result Unit Stop} {x : Lent} → r ≡ asserted_true v
      → Changes x (asserted (state_of x) v)
      → Acts t n ρ r x x
  acts-asserted (Ok true) {x = x} q e f = ran-is (e f) (rw q (ran-finished x f))
  acts-asserted (Ok false) {x = x} q e f = ran-is (e f) (rw q (ran-ended x Stop.FalseAssertion (number_at t n) ρ f))
  acts-asserted (Err c) {x = x} q e f = ran-is (e f) (rw q (ran-ended x c (number_at t n) ρ f))

-- what takes from the temporaries after its own, and what changes the observation memory
module _ (t : List ℕ) (n : ℕ) (h : HasSort target statement t n) (ρ : Variables) (x : WatchedState) (f : ℕ) where
  abbrev pub gives : ℕ → Outcome WatchedState
  gives k =
      after (number_at t n) ρ f
      (taken x (mark_of t n) (taken_of k (child_c t n) x.temporaries (mark_of t n) x.observation))

  pub watch-take : IsTake (kind_of t n) → watch (target_statement_at t n) ρ x f ≡ gives (kind_of t n)
  watch-take (inl e) = watch-operation t n h ρ x f e ∙ ap gives (sym e)
  watch-take (inr (inl e)) = watch-query t n h ρ x f e ∙ ap gives (sym e)
  watch-take (inr (inr e)) = watch-not t n h ρ x f e ∙ ap gives (sym e)

  abbrev pub calls : ℕ → Outcome WatchedState
  calls k = after (number_at t n) ρ f (observed x (note_of k x.temporaries (mark_of t n) x.observation))

  pub watch-note : IsNote (kind_of t n) → watch (target_statement_at t n) ρ x f ≡ calls (kind_of t n)
  watch-note (inl e) = watch-store-block t n h ρ x f e ∙ ap calls (sym e)
  watch-note (inr e) = watch-delete-block t n h ρ x f e ∙ ap calls (sym e)

-- the kinds from 63 to 65 are those that take
pub take-between : (k : ℕ) → 63 ≤ k → k < 66 → IsTake k
take-between k a b = go (ℕ_discrete k 63) (ℕ_discrete k 64)
  where
    go : Dec (k ≡ 63) → Dec (k ≡ 64) → IsTake k
    go (yes p) q = inl p
    go (no p) (yes q) = inr (inl q)
    go (no p) (no q) = inr (inr (omega arith))

-- the last of these kinds are what is left
pub last-act : {X : Type 0} (t : List ℕ) (n : ℕ) → HasSort target statement t n → IsAct (kind_of t n) → {k : ℕ}
    → k ≡ kind_of t n
    → ((((((((X × (k ≢ 40)) × (k ≢ 41)) × (k ≢ 42)) × (k ≢ 43)) × (k ≢ 60)) × (k ≢ 61)) × (k ≢ 67)) × (k ≢ 70))
    → ((k < 63) ⊎ (66 ≤ k))
    → IsNote (kind_of t n)
last-act t n h a {k} e r b = go (ℕ_discrete (kind_of t n) 68) (ℕ_discrete (kind_of t n) 69)
  where
    outside : (k < 63) ⊎ (66 ≤ k) → (j : ℕ) → 63 ≤ j → j < 66 → k ≢ j
    outside (inl p) j x y q = omega arith
    outside (inr p) j x y q = omega arith

    go : Dec (kind_of t n ≡ 68) → Dec (kind_of t n ≡ 69) → IsNote (kind_of t n)
    go (yes p) q = inl p
    go (no p) (yes q) = inr q
    go (no p) (no q) =
        absurd
        (r.1 (e ∙ statement-kinds t n h
        (λ d. r.0.0.0.0.0.0.0.1 (e ∙ d)) (λ d. r.0.0.0.0.0.0.1 (e ∙ d))
        (λ d. r.0.0.0.0.0.1 (e ∙ d)) (λ d. r.0.0.0.0.1 (e ∙ d))
        a.0 a.1 a.2 a.3
        (λ d. r.0.0.0.1 (e ∙ d)) (λ d. r.0.0.1 (e ∙ d))
        (λ d. outside b 63 (omega arith) (omega arith) (e ∙ d)) (λ d. outside b 64 (omega arith) (omega arith) (e ∙ d))
        (λ d. outside b 65 (omega arith) (omega arith) (e ∙ d))
        a.4 (λ d. r.0.1 (e ∙ d)) p q))
