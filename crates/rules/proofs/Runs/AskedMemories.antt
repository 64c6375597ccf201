-- Which memory a comparison asks in a watched run.
use Prim.Native.Nat.{ℕ, suc}
use mathlib.Core.Bool.{false}
use mathlib.Core.List.{[]}
use mathlib.Core.Logic.{◌⊎◌, inl, inr}
use mathlib.Core.Path.{◌≡◌, refl, ap}
use Rattle.std.specs.Prelude.{Err, Ok}
use Rattle.rules.specs.Types.{Pointer, Value, Evaluated, Recorded, Stop}
use Rattle.rules.specs.Nodes.{operator_of}
use Rattle.rules.specs.Trees.{Operator, Expression}
use Rattle.rules.specs.TargetTrees.{take_operation}
use Rattle.rules.specs.Memory.{Memory, is_live}
use Rattle.rules.specs.Evaluation.{Variables, operated}
use Rattle.rules.specs.Observation.{Observation, record_of, live_record}
use Rattle.rules.specs.Flow.{ended, ending, after}
use Rattle.rules.specs.Watched.{Temporaries, held_in, watching, value_in, taken, watch}
use Rattle.rules.proofs.Memory.ComparedPointers.{operator-7-ends-47}

-- 02 §4: "an expression, there too, asks the execution memory": what it gives does not depend on the observation memory
pub expressions-ask-the-execution-memory : (e : Expression ℕ) (ρ : Variables) (m : Memory) (o o₁ : Observation)
    (τ : Temporaries) → value_in e ρ (watching m o τ) ≡ value_in e ρ (watching m o₁ τ)
expressions-ask-the-execution-memory e ρ m o o₁ τ = refl

-- 02 §4: "kind 63 asks the observation memory": what it gives does not depend on the execution memory
pub kind-63-asks-the-observation-memory : (s n : ℕ) (q : Operator) (ρ : Variables) (m m₁ : Memory) (o : Observation)
    (τ : Temporaries) (f : ℕ)
    → let x = ending (watch (take_operation s n q) ρ (watching m o τ) f) in
    let y = ending (watch (take_operation s n q) ρ (watching m₁ o τ) f) in
    (x.number ≡ y.number) × (x.state.temporaries ≡ y.state.temporaries)
unfolding watch
kind-63-asks-the-observation-memory s n q ρ m m₁ o τ f =
    go (operated (live_record o) q (held_in τ (suc n)) (held_in τ (suc (suc n))))
  where
    go : (e : Evaluated)
        → let x = ending (after s ρ f (taken (watching m o τ) n e)) in
        let y = ending (after s ρ f (taken (watching m₁ o τ) n e)) in
        (x.number ≡ y.number) × (x.state.temporaries ≡ y.state.temporaries)
    go (Ok v) = (refl, refl)
    go (Err c) = (refl, refl)

-- 02 §4: "A hand-made target whose 63 compares a block never recorded also ends 47."
module _ (s n : ℕ) (ρ : Variables) (m : Memory) (o : Observation) (τ : Temporaries) (f : ℕ) (p q : Pointer)
    (left : held_in τ (suc n) ≡ Ok (Value.Pointer p))
    (right : held_in τ (suc (suc n)) ≡ Ok (Value.Pointer q)) where
  pub never-recorded-ends-47 : (record_of o p.name ≡ Recorded.Unused) ⊎ (record_of o q.name ≡ Recorded.Unused)
      → watch (take_operation s n (operator_of 7)) ρ (watching m o τ) f ≡ ended Stop.NotLive s ρ [] (watching m o τ) f
  unfolding watch
  never-recorded-ends-47 h = rw (left, right, operator-7-ends-47 (live_record o) p q (not_live h)) refl
    where
      not_live : (record_of o p.name ≡ Recorded.Unused) ⊎ (record_of o q.name ≡ Recorded.Unused)
          → (live_record o p.name ≡ false) ⊎ (live_record o q.name ≡ false)
      not_live (inl e) = inl (ap is_live e)
      not_live (inr e) = inr (ap is_live e)
