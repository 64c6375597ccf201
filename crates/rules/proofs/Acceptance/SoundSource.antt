-- Each node of an accepted source table is sound by what its record hands on.
use Prim.Native.Nat.{ℕ, zero, suc, ◌+◌, ◌≤◌, ◌<◌}
use native.Mathlib.Omega.{arith}
use mathlib.Core.Bool.{true, false}
use mathlib.Core.List.{List, [], ◌∷◌}
use mathlib.Core.Path.{◌≡◌, refl, subst}
use borrow.Author.Tests.{leb-true, eq-eqb}
use lib.Dec.{leb, eqb}
use Rattle.rules.specs.Records.{mark_of, child_a, child_b, child_c}
use Rattle.rules.specs.Kinds.{source, Sort, between}
use Rattle.rules.specs.Checker.{position_in}
use Rattle.rules.specs.Trees.{Term}
use Rattle.rules.specs.Nodes.{operator_of, as_term, node_at}
use Rattle.rules.proofs.Acceptance.Sound.{Scope, is_plain_operator, SoundTerm}
use Rattle.rules.proofs.Acceptance.KindViews.{and_split, form_at, SourceKind, literal, read, address, operation}
use Rattle.rules.proofs.Acceptance.KindViews.{shifted}
use Rattle.rules.proofs.Acceptance.KindViews.{variable, pointed, value, base, offset, block_length, combined}
use Rattle.rules.proofs.Acceptance.KindViews.{valid}
use Rattle.rules.proofs.Acceptance.KindViews.{initialised, compared, negated, both, either, skip, assign, new}
use Rattle.rules.proofs.Acceptance.KindViews.{free}
use Rattle.rules.proofs.Acceptance.KindViews.{sequence, branch, while, let_in, assert}
use Rattle.rules.proofs.Acceptance.FormLaws.{node_as}
use Rattle.rules.proofs.Acceptance.RecordScopes.{scope_at, level_at}
use Rattle.rules.proofs.Acceptance.Readiness.{SoundAs, Ready}

pub up_to : (high x : ℕ) → between 0 high x ≡ true → x ≤ high
up_to high x h = leb-true x high (and_split (leb 0 x) (leb x high) h).1

-- operators 1–7
pub plain-operator : (m : ℕ) → between 1 7 m ≡ true → is_plain_operator (operator_of m) ≡ true
plain-operator m h =
    let r = and_split (leb 1 m) (leb m 7) h in
    go m (leb-true 1 m r.0) (leb-true m 7 r.1)
  where
    go : (m : ℕ) → 1 ≤ m → m ≤ 7 → is_plain_operator (operator_of m) ≡ true
    go zero p q = absurd (omega arith)
    go (suc zero) p q = refl
    go (suc (suc zero)) p q = refl
    go (suc (suc (suc zero))) p q = refl
    go (suc (suc (suc (suc zero)))) p q = refl
    go (suc (suc (suc (suc (suc zero))))) p q = refl
    go (suc (suc (suc (suc (suc (suc zero)))))) p q = refl
    go (suc (suc (suc (suc (suc (suc (suc zero))))))) p q = refl
    go (suc (suc (suc (suc (suc (suc (suc (suc m)))))))) p q = absurd (omega arith)

-- A at the next level, B at the one after it
two-terms : (x y : Term) (ρ : Scope) (v a b c : ℕ) → suc (suc v) < 64 → eqb a b ≡ false
    → SoundTerm x ρ (v + 1 + position_in (a ∷ b ∷ c ∷ []) a) → SoundTerm y ρ (v + 1 + position_in (a ∷ b ∷ c ∷ []) b)
    → (suc (suc v) < 64) × SoundTerm x ρ (suc v) × SoundTerm y ρ (suc (suc v))
two-terms x y ρ v a b c h e p q =
    let first : v + 1 + position_in (a ∷ b ∷ c ∷ []) a ≡ suc v = rw (eq-eqb a a refl) (omega arith) in
    let second : v + 1 + position_in (a ∷ b ∷ c ∷ []) b ≡ suc (suc v) = rw (e, eq-eqb b b refl) (omega arith) in
    (h, subst (SoundTerm x ρ) first p, subst (SoundTerm y ρ) second q)

pub source-arm : (t : List ℕ) (n : ℕ) {s : Sort} {k : ℕ} → SourceKind s k → Ready source t n (form_at source k)
    → SoundAs source s (node_as source k t n) (scope_at source t n) (level_at source t n)
source-arm t n literal r = r.range
source-arm t n read r = r.a
source-arm t n address r = r.a
source-arm t n operation r = (plain-operator (mark_of t n) r.holds.mark, r.a, r.b)
source-arm t n shifted r = (r.a, r.b)
source-arm t n variable r = (omega (arith, up_to 63 (mark_of t n) r.holds.mark), r.uses refl)
source-arm t n pointed r = r.a
source-arm t n value r = (r.names refl, r.a)
source-arm t n base r = (r.names refl, r.a)
source-arm t n offset r = (r.names refl, r.a)
source-arm t n block_length r = (r.names refl, r.a)
source-arm t n combined r =
    two-terms (as_term (node_at source t (child_a t n))) (as_term (node_at source t (child_b t n))) (scope_at source t n)
    (level_at source t n) (child_a t n) (child_b t n) (child_c t n) (r.names refl) r.apart r.a r.b
source-arm t n valid r = (r.names refl, r.a)
source-arm t n initialised r = (r.names refl, r.a)
source-arm t n compared r =
    two-terms (as_term (node_at source t (child_a t n))) (as_term (node_at source t (child_b t n))) (scope_at source t n)
    (level_at source t n) (child_a t n) (child_b t n) (child_c t n) (r.names refl) r.apart r.a r.b
source-arm t n negated r = (r.names refl, r.a)
source-arm t n both r = (r.names refl, r.a, r.b)
source-arm t n either r = (r.names refl, r.a, r.b)
source-arm t n skip r = (r.from_one, r.within)
source-arm t n assign r = ((r.from_one, r.within), r.a, r.b)
source-arm t n new r = ((r.from_one, r.within), r.a, r.b)
source-arm t n free r = ((r.from_one, r.within), r.a)
source-arm t n sequence r = ((r.from_one, r.within), r.a, r.b)
source-arm t n branch r = ((r.from_one, r.within), r.a, r.b, r.c)
source-arm t n while r = ((r.from_one, r.within), r.a, r.b)
source-arm t n let_in r =
    ((r.from_one, r.within), omega (arith, up_to 63 (mark_of t n) r.holds.mark), r.lets refl, r.a)
source-arm t n assert r = ((r.from_one, r.within), r.a)
