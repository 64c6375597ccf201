-- What every statement without statements in it keeps, every run of a source program keeps, whatever its state is.
use Prim.Native.Nat.{ℕ}
use Rattle.rules.specs.Types.{Stop}
use Rattle.rules.specs.Trees.{Place, Expression, Predicate, Statement, skip, assign, new, free, sequence, branch}
use Rattle.rules.specs.Trees.{while, let_in, assert}
use Rattle.rules.specs.Evaluation.{Variables, extend}
use Rattle.rules.specs.Flow.{into, Meaning, run_by}
use Rattle.rules.proofs.Runs.Keeping.{TestStops, ChangeKeeps, MadeKeeps}
use Rattle.rules.proofs.Runs.Outcomes.{Onwards, Reaches, reach-itself, reach-into, reach-next, reach-after}
use Rattle.rules.proofs.Runs.Outcomes.{reach-decide, reach-turns, reach-let}

pub record MeaningKeeps {S : Type 0} (M : Meaning S) (P : S → Type 0) (R : S → S → Type 0) (G : S → ℕ → Type 0)
    (E : Stop → Type 0) : Type 0 where
  pub onwards : Onwards P R
  pub assigns : (p : Place ⊥) (e : Expression ⊥) (ρ : Variables) (x : S) → P x
      → ChangeKeeps (R x) E (M.assigns p e ρ x)
  pub allocates : (p : Place ⊥) (e : Expression ⊥) (ρ : Variables) (x : S) → P x
      → ChangeKeeps (R x) E (M.allocates p e ρ x)
  pub frees : (e : Expression ⊥) (ρ : Variables) (x : S) → P x → ChangeKeeps (R x) E (M.frees e ρ x)
  pub asserts : (s : ℕ) (p : Predicate) (ρ : Variables) (x : S) (f : ℕ) → P x
      → ChangeKeeps (R x) E (M.asserts s p ρ x f)
  pub decides : (e : Expression ⊥) (ρ : Variables) (x : S) → P x → TestStops E (M.decides e ρ x)
  pub makes : (x : S) → P x → MadeKeeps (λ k y. G x k × R x y) E (M.makes x)
  pub ends : (x y : S) (k : ℕ) → G x k → R x y → R x (M.ends y k)
  pub out-of-fuel : E Stop.NoFuel

module _ {S : Type 0} {M : Meaning S} {P : S → Type 0} {R : S → S → Type 0} {G : S → ℕ → Type 0} {E : Stop → Type 0}
    (h : MeaningKeeps M P R G E) where
  pub run-reaches : (a : Statement) (ρ : Variables) (x : S) (f : ℕ) → P x → Reaches R E x f (run_by M a ρ x f)
  unfolding run_by
  run-reaches (skip s) ρ x f v = reach-itself E h.onwards x f v
  run-reaches (assign s p e) ρ x f v = reach-after E h.onwards x s ρ f (M.assigns p e ρ x) (h.assigns p e ρ x v)
  run-reaches (new s p e) ρ x f v = reach-after E h.onwards x s ρ f (M.allocates p e ρ x) (h.allocates p e ρ x v)
  run-reaches (free s e) ρ x f v = reach-after E h.onwards x s ρ f (M.frees e ρ x) (h.frees e ρ x v)
  run-reaches (sequence s a b) ρ x f v =
      reach-next E h.onwards x f (into 0 (run_by M a ρ x f)) (λ y g. into 1 (run_by M b ρ y g))
      (reach-into E h.onwards 0 x f (run_by M a ρ x f) (run-reaches a ρ x f v)) (λ y g r l.
      reach-into E h.onwards 1 y g (run_by M b ρ y g) (run-reaches b ρ y g (h.onwards.valid r)))
  run-reaches (branch s e a b) ρ x f v =
      reach-decide E h.onwards s ρ (M.decides e ρ x) x f (into 1 (run_by M a ρ x f)) (into 2 (run_by M b ρ x f)) v
      (h.decides e ρ x v)
      (reach-into E h.onwards 1 x f (run_by M a ρ x f) (run-reaches a ρ x f v))
      (reach-into E h.onwards 2 x f (run_by M b ρ x f) (run-reaches b ρ x f v))
  run-reaches (while s e b) ρ x f v =
      reach-turns E h.onwards s ρ (λ y. M.decides e ρ y) (λ y g. into 1 (run_by M b ρ y g)) h.out-of-fuel
      (λ y u. h.decides e ρ y u) (λ y g u.
      reach-into E h.onwards 1 y g (run_by M b ρ y g) (run-reaches b ρ y g u)) f x f v
  run-reaches (let_in s z b) ρ x f v =
      reach-let E h.onwards (λ k y. G x k × R x y) s ρ x f (M.makes x) M.ends
      (λ k y g. into 0 (run_by M b (extend ρ z k) y g)) v (h.makes x v) (λ k y g. g.1) (λ k y g.
      reach-into E h.onwards 0 y f (run_by M b (extend ρ z k) y f)
      (run-reaches b (extend ρ z k) y f (h.onwards.valid g.1)))
      (λ k y z g r. h.ends x z k g.0 r)
  run-reaches (assert s p) ρ x f v = reach-after E h.onwards x s ρ f (M.asserts s p ρ x f) (h.asserts s p ρ x f v)
