-- A number that is one of a list, as those of endings and refusals are.
use Prim.Native.Nat.{ℕ}
use mathlib.Core.Bool.{Bool, true, false, not, ◌&&◌, ◌||◌, true≢false, false≢true}
use mathlib.Core.List.{List, [], ◌∷◌}
use mathlib.Core.Logic.{◌≢◌}
use mathlib.Core.Path.{◌≡◌, refl, sym, ap, ◌∙◌}
use borrow.Author.Tests.{eqb-true}
use lib.Dec.{eqb}
use Rattle.rules.specs.Types.{Stop, stop_number}
use Rattle.rules.specs.Answers.{is_in}
use Rattle.rules.proofs.Lists.BooleanLaws.{and_split}

abbrev pub Among : List ℕ → ℕ → Type 0
Among l c = is_in c l ≡ true

abbrev pub StopsAmong : List ℕ → Stop → Type 0
StopsAmong l c = Among l (stop_number c)

-- each of a list passes a test
abbrev pub each : (ℕ → Bool) → List ℕ → Bool
each p [] = true
each p (j ∷ l) = p j && each p l

pub among-passes : (p : ℕ → Bool) (l : List ℕ) (c : ℕ) → each p l ≡ true → Among l c → p c ≡ true
among-passes p [] c e h = absurd (false≢true h)
among-passes p (j ∷ l) c e h =
    let both = and_split (p j) (each p l) e in
    go (eqb c j) refl h both.0 (λ k. among-passes p l c both.1 k)
  where
    go : (b : Bool) → eqb c j ≡ b → (b || is_in c l) ≡ true → p j ≡ true → (Among l c → p c ≡ true) → p c ≡ true
    go true g k first rest = ap p (eqb-true c j g) ∙ first
    go false g k first rest = rest k

-- so is one of a list one of a longer one, none of a list that shares nothing with it, and no number that it lacks
pub among-more : (l r : List ℕ) (c : ℕ) → each (λ j. is_in j r) l ≡ true → Among l c → Among r c
among-more l r c e h = among-passes (λ j. is_in j r) l c e h

pub among_none : (l r : List ℕ) (c : ℕ) → each (λ j. not (is_in j r)) l ≡ true → Among l c → is_in c r ≡ false
among_none l r c e h = go (is_in c r) (among-passes (λ j. not (is_in j r)) l c e h)
  where
    go : (b : Bool) → not b ≡ true → b ≡ false
    go true g = absurd (false≢true g)
    go false g = refl

pub among-not : (l : List ℕ) (c k : ℕ) → is_in k l ≡ false → Among l c → c ≢ k
among-not l c k e h d = true≢false (sym h ∙ ap (λ (x : ℕ). is_in x l) d ∙ e)
