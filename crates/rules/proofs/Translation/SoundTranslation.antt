-- The translation of a sound statement is a sound target statement.
use Prim.Native.Nat.{ℕ, suc, ◌<◌}
use native.Mathlib.Omega.{arith}
use mathlib.Core.Path.{◌≡◌, refl, ap}
use mathlib.Core.Bool.{Bool, true, cond}
use borrow.Author.Tests.{eq-eqb}
use Rattle.rules.specs.Trees.{Expression, literal, read, address, operation, shifted, Place, variable, pointed}
use Rattle.rules.specs.Trees.{temporary, Term, value, asked, combined, Predicate, holds, compared, negated}
use Rattle.rules.specs.Trees.{both, either, Statement}
use Rattle.rules.specs.Trees as tree
use Rattle.rules.specs.Translation.{embed, embed_place, translate_term, translate_predicate, translate}
use Rattle.rules.proofs.Acceptance.Sound.{Scope, adding, SoundExpression, SoundPlace, NoName, Named, SoundTerm}
use Rattle.rules.proofs.Acceptance.Sound.{SoundPredicate, Numbered, SoundStatement, SoundTarget}

mutual
  unfolding embed

  pub sound-embed : (e : Expression ⊥) (ρ : Scope) → SoundExpression e NoName ρ → SoundExpression (embed e) Named ρ
  sound-embed (literal z) ρ h = h
  sound-embed (read p) ρ h = sound-place p ρ h
  sound-embed (address p) ρ h = sound-place p ρ h
  sound-embed (operation o a b) ρ h = (h.0, sound-embed a ρ h.1, sound-embed b ρ h.2)
  sound-embed (shifted a b) ρ h = (sound-embed a ρ h.0, sound-embed b ρ h.1)

  pub sound-place : (p : Place ⊥) (ρ : Scope) → SoundPlace p NoName ρ → SoundPlace (embed_place p) Named ρ
  sound-place (variable x) ρ h = h
  sound-place (pointed e) ρ h = sound-embed e ρ h
  sound-place (temporary t) ρ h = elim t [ ]

pub sound-term : (t : Term) (ρ : Scope) (s n : ℕ) → Numbered s → SoundTerm t ρ n → SoundTarget (translate_term t s n) ρ
unfolding translate_term
sound-term (value e) ρ s n d h = (d, h.0, sound-embed e ρ h.1)
sound-term (asked q t) ρ s n d h = (d, sound-term t ρ s (suc n) d h.1, (d, h.0))
sound-term (combined o a b) ρ s n d h =
    (d, sound-term a ρ s (suc n) d h.1, (d, sound-term b ρ s (suc (suc n)) d h.2, (d, h.0)))

pub sound-predicate : (p : Predicate) (ρ : Scope) (s n : ℕ) → Numbered s → SoundPredicate p ρ n
    → SoundTarget (translate_predicate p s n) ρ
unfolding translate_predicate
sound-predicate (holds q t) ρ s n d h = (d, sound-term t ρ s (suc n) d h.1, (d, h.0))
sound-predicate (compared o a b) ρ s n d h =
    (d, sound-term a ρ s (suc n) d h.1, (d, sound-term b ρ s (suc (suc n)) d h.2, (d, h.0)))
sound-predicate (negated a) ρ s n d h = (d, sound-predicate a ρ s (suc n) d h.1, (d, h.0))
sound-predicate (both a b) ρ s n d h =
    (d, sound-predicate a ρ s n d h.1, (d, h.0, sound-predicate b ρ s n d h.2, d))
sound-predicate (either a b) ρ s n d h =
    (d, sound-predicate a ρ s n d h.1, (d, h.0, d, sound-predicate b ρ s n d h.2))

pub added : (ρ : Scope) (x : ℕ) → adding ρ x x ≡ true
added ρ x = ap (λ (c : Bool). cond c true (ρ x)) (eq-eqb x x refl)

pub sound-translation : (s : Statement) (ρ : Scope) → SoundStatement s ρ → SoundTarget (translate s) ρ
unfolding translate
sound-translation (tree.skip s) ρ h = h
sound-translation (tree.assign s p e) ρ (d, hp, he) =
    (d, (d, omega arith, sound-place p ρ hp), (d, (d, sound-place p ρ hp, sound-embed e ρ he), (d, omega arith)))
sound-translation (tree.new s p e) ρ (d, hp, he) =
    let size : SoundExpression (embed e) Named ρ = sound-embed e ρ he in
    let at : SoundPlace (embed_place p) Named ρ = sound-place p ρ hp in (
      d,
      (d, omega arith, at),
      (
        d,
        (d, omega arith, size),
        (
          d,
          (d, at, size),
          (
            d,
            (d, omega arith, omega arith),
            (d, (d, omega arith), (d, omega arith)),
          ),
        ),
      ),
    )
sound-translation (tree.free s e) ρ (d, he) =
    (d, (d, omega arith, sound-embed e ρ he), (d, (d, sound-embed e ρ he), (d, omega arith)))
sound-translation (tree.sequence s a b) ρ (d, ha, hb) = (d, sound-translation a ρ ha, sound-translation b ρ hb)
sound-translation (tree.branch s e a b) ρ (d, he, ha, hb) =
    (d, sound-embed e ρ he, sound-translation a ρ ha, sound-translation b ρ hb)
sound-translation (tree.while s e b) ρ (d, he, hb) = (d, sound-embed e ρ he, sound-translation b ρ hb)
sound-translation (tree.let_in s x b) ρ (d, hx, out, hb) =
    let address : Numbered s × (0 < 64) × ((x < 64) × (adding ρ x x ≡ true)) = (d, omega arith, (hx, added ρ x)) in (
      d,
      hx,
      out,
      (
        d,
        address,
        (
          d,
          (d, omega arith, refl),
          (
            d,
            (d, omega arith),
            (d, sound-translation b (adding ρ x) hb, (d, address, (d, omega arith))),
          ),
        ),
      ),
    )
sound-translation (tree.assert s p) ρ (d, hp) = (d, sound-predicate p ρ s 0 d hp, (d, omega arith))
