-- The observation memory of a run's start, made by its calls.
use Prim.Native.Nat.{ℕ, suc, ◌+◌}
use native.Mathlib.Omega.{arith}
use mathlib.Core.List.{List}
use mathlib.Core.Path.{◌≡◌, sym, ap, ◌∙◌, subst}
use Rattle.rules.specs.Observation.{Observation, empty_observation, record_block, mark_cell, mark_all}
use Rattle.rules.specs.Observation.{start_observation}
use Rattle.rules.specs.Layout.{observation_of, observation_image}
use Rattle.rules.proofs.Layouts.LayoutLaws.{observation-back}
use Rattle.rules.proofs.Layouts.KeptPredicates.{empty-inside}
use Rattle.observation.specs.Calls.{ObservationBecomes}
use Rattle.observation.proofs.Becoming.{becomes-same, becomes-then}

pub becomes-is : {l l' : List ℕ} {o o' : Observation} → o ≡ o' → ObservationBecomes l l' o → ObservationBecomes l l' o'
becomes-is {l} {l'} e h = subst (ObservationBecomes l l') e h

-- the cells of a block marked one by one
pub mark-none : (l : List ℕ) (k : ℕ) → ObservationBecomes l l (mark_all (observation_of l) k 0)
unfolding mark_all
mark-none l k = becomes-same l

pub mark-more : {l l' l'' : List ℕ} (o : Observation) (k i : ℕ) → ObservationBecomes l l' (mark_all o k i)
    → ObservationBecomes l' l'' (mark_cell (observation_of l') k i) → ObservationBecomes l l'' (mark_all o k (i + 1))
unfolding mark_all
mark-more o k i a b =
    let next : suc i ≡ i + 1 = omega arith in
    becomes-is (ap (mark_all o k) next) (becomes-then (λ (x : Observation). mark_cell x k i) a b)

-- a memory that is cleared
pub cleared-empty : {l : List ℕ} → l ≡ observation_image empty_observation → observation_of l ≡ empty_observation
cleared-empty e = ap observation_of e ∙ observation-back empty_observation empty-inside.observation-fits

-- two blocks recorded and marked after that
pub start-image : {l l' l'' : List ℕ} (n : ℕ) → l ≡ observation_image empty_observation
    → ObservationBecomes l l' (mark_all (record_block (observation_of l) 1 1) 1 1)
    → ObservationBecomes l' l'' (mark_all (record_block (observation_of l') 2 n) 2 n)
    → l'' ≡ observation_image (start_observation n)
start-image {l} {l'} {l''} n e a b = both.exact exact ∙ ap observation_image (both.view ∙ ap start empty)
  where
    start : Observation → Observation
    start o = mark_all (record_block (mark_all (record_block o 1 1) 1 1) 2 n) 2 n

    empty : observation_of l ≡ empty_observation
    empty = cleared-empty e

    exact : l ≡ observation_image (observation_of l)
    exact = e ∙ ap observation_image (sym empty)

    both : ObservationBecomes l l'' (start (observation_of l))
    both = becomes-then (λ (o : Observation). mark_all (record_block o 2 n) 2 n) a b
