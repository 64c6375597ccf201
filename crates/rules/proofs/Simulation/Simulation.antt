-- The watched run of the translation follows the plain run.
use Prim.Native.Nat.{ℕ}
use mathlib.Core.Path.{refl, sym, ap, subst}
use mathlib.Core.Bool.{cond}
use borrow.Author.Tests.{eq-eqb}
use Rattle.rules.specs.Trees.{Statement, skip, assign, new, free, sequence, branch, while, let_in, assert}
use Rattle.rules.specs.Memory.{Memory, next_name, free_run}
use Rattle.rules.specs.Evaluation.{Variables, evaluate, evaluate_source, find_source, condition, extend}
use Rattle.rules.specs.Observation.{mirror}
use Rattle.rules.specs.Flow.{run_by}
use Rattle.rules.specs.Plain.{run}
use Rattle.rules.specs.Watched.{Temporaries, watching, value_in, place_in, watch}
use Rattle.rules.specs.Translation.{embed, embed_place, translate}
use Rattle.rules.proofs.Acceptance.Sound.{Scope, adding, SoundStatement}
use Rattle.rules.proofs.Memory.Invariant.{Invariant}
use Rattle.rules.proofs.Runs.Outcomes.{into-state}
use Rattle.rules.proofs.Memory.Room.{room}
use Rattle.rules.proofs.Memory.PlainKept.{plain-onward}
use Rattle.rules.proofs.Runs.DefinedValues.{fair-source}
use Rattle.rules.proofs.Simulation.PredicateSimulation.{embed-is, embed_place-is, Full, predicate-agrees}
use Rattle.rules.proofs.Simulation.StatementSteps.{Agree, both-finish, agree-into, agree-next, agree-decide}
use Rattle.rules.proofs.Simulation.StatementSteps.{agree-turns}
use Rattle.rules.proofs.Simulation.StatementSteps.{agree-assert, agree-assigned, agree-freed}
use Rattle.rules.proofs.Simulation.BlockSteps.{agree-allocated, agree-let}

pub simulates : (a : Statement) (σ : Scope) (ρ : Variables) (m : Memory) (τ : Temporaries) (f : ℕ) → SoundStatement a σ
    → Invariant m → Full τ → Agree (run a ρ m f) (watch (translate a) ρ (watching m (mirror m) τ) f)
unfolding run_by watch translate evaluate
simulates (skip s) σ ρ m τ f d y l = both-finish refl l
simulates (assign s p e) σ ρ m τ f d y l =
    agree-assigned s ρ m τ f (find_source p ρ m) (evaluate_source e ρ m) (place_in (embed_place p) ρ) (value_in (embed e) ρ)
    (fair-source e ρ m) l (λ t. embed_place-is p t ρ m) (λ t. embed-is e t ρ m)
simulates (new s p e) σ ρ m τ f d y l =
    agree-allocated s ρ m τ f (find_source p ρ m) (evaluate_source e ρ m) (place_in (embed_place p) ρ) (value_in (embed e) ρ)
    y l (λ t. embed_place-is p t ρ m) (λ t. embed-is e t ρ m)
simulates (free s e) σ ρ m τ f d y l =
    agree-freed s ρ m τ f (evaluate_source e ρ m) (value_in (embed e) ρ) l (λ t. embed-is e t ρ m)
simulates (sequence s a b) σ ρ m τ f d y l =
    agree-next _ _ (agree-into 0 0 (simulates a σ ρ m τ f d.1 y l))
    (subst Invariant (sym (into-state 0 (run a ρ m f))) (plain-onward a ρ m f y).invariant)
    (λ m₁ τ₁ f₁ y₁ l₁. agree-into 1 1 (simulates b σ ρ m₁ τ₁ f₁ d.2 y₁ l₁))
simulates (branch s e a b) σ ρ m τ f d y l =
    agree-decide s ρ (condition (evaluate_source e ρ m))
    (condition (value_in (embed e) ρ (watching m (mirror m) τ))) m τ f
    _ _ _ _ (ap condition (embed-is e τ ρ m))
    (agree-into 1 1 (simulates a σ ρ m τ f d.2 y l)) (agree-into 2 2 (simulates b σ ρ m τ f d.3 y l))
simulates (while s e b) σ ρ m τ f d y l =
    agree-turns f s ρ _ _ _ _ (λ x. ap condition (embed-is e x.temporaries ρ x.memory))
    (λ m₁ τ₁ f₁ y₁ l₁. agree-into 1 1 (simulates b σ ρ m₁ τ₁ f₁ d.2 y₁ l₁))
    (λ m₁ f₁ y₁. subst Invariant (sym (into-state 1 (run b ρ m₁ f₁))) (plain-onward b ρ m₁ f₁ y₁).invariant) m τ f y l
simulates (let_in s x b) σ ρ m τ f d y l =
    agree-let s ρ m τ f (extend ρ x) (λ k. extend ρ x k x) (λ k m₁ f₁. run b (extend ρ x k) m₁ f₁)
    (λ k y₁ f₁. watch (translate b) (extend ρ x k) y₁ f₁) (next_name m) (free_run m 1) (room m 1) refl y l
    (λ k. ap (λ c. cond c k (ρ x)) (eq-eqb x x refl))
    (λ k m₁ τ₁ f₁ y₁ l₁. simulates b (adding σ x) (extend ρ x k) m₁ τ₁ f₁ d.3 y₁ l₁)
    (λ k m₁ f₁ y₁. plain-onward b (extend ρ x k) m₁ f₁ y₁)
simulates (assert s p) σ ρ m τ f d y l = agree-assert (predicate-agrees p σ ρ m s 0 τ f d.1 l)
