-- The blocks of the variables.
use Prim.Native.Nat.{ℕ, zero, suc, ◌<◌}
use mathlib.Core.Bool.{Bool, true, false, cond, false≢true}
use mathlib.Core.List.{List}
use mathlib.Core.Path.{◌≡◌, refl, sym, ap, ◌∙◌}
use borrow.Author.Tests.{eq-eqb, eqb-true}
use lib.Dec.{eqb}
use lib.ListN.{length, get_or, set, replicate}
use lib.Seq.{get_or-set_same, get_or-set_other}
use Rattle.rules.specs.Evaluation.{extend}
use Rattle.rules.specs.Plain.{start_variables}
use Rattle.rules.proofs.Lists.Rows.{get_d-zero}
use Rattle.evaluation.specs.State.{variables_of}

-- at the start
pub variables-start : variables_of (set (replicate 64 0) 0 1) ≡ start_variables
variables-start = λ i y. at y i
  where
    at : (y : ℕ) → get_or (set (replicate 64 0) 0 1) y 0 ≡ start_variables y
    at zero = refl
    at (suc y) = get_d-zero 63 y

-- a block for a variable
pub variables-set : (l : List ℕ) (v k : ℕ) → v < length l → variables_of (set l v k) ≡ extend (variables_of l) v k
variables-set l v k h = λ i y. at y (eqb y v) refl i
  where
    at : (y : ℕ) (b : Bool) → eqb y v ≡ b → get_or (set l v k) y 0 ≡ cond b k (get_or l y 0)
    at y true e = ap (λ (j : ℕ). get_or (set l v k) j 0) (eqb-true y v e) ∙ get_or-set_same l v k 0 h
    at y false e = get_or-set_other l v y k 0 (λ p. false≢true (sym e ∙ eq-eqb y v p))
