-- What is put for the children of a record is given to them.
use Prim.Native.Nat.{ℕ, ◌+◌, ◌<◌, ◌≤◌}
use native.Mathlib.Omega.{arith}
use mathlib.Core.Bool.{Bool, true, cond, ◌||◌}
use mathlib.Core.List.{List}
use mathlib.Core.Path.{◌≡◌, refl, sym, ap, subst, ◌∙◌}
use borrow.Author.Tests.{lt-ltb, le-ltb, ne_eqb, leb-true}
use lib.Dec.{leb, ltb}
use lib.ListN.{length, get_or}
use Rattle.std.specs.Prelude.{Ok}
use Rattle.rules.specs.Records.{record_count, kind_of, child_a, child_b, child_c}
use Rattle.rules.specs.Kinds.{Language, source}
use Rattle.rules.specs.Checker.{record_fault, times_child_of, level_below, is_term_or_predicate}
use Rattle.rules.proofs.Acceptance.ParentLaws.{two-pass, child-single}
use Rattle.checker.specs.Notes.{put_at, third_child}
use Rattle.checker.specs.Scopes.{Given, Formed, Kept, child_level}
use Rattle.checker.proofs.NoteLaws.{count, count-has, count-self, put_step, put-length}
use Rattle.checker.proofs.TimesLaws.{third, kept-times, a-below, b-below, c-below}
use Rattle.checker.proofs.LevelLaws.{at_first, at_second, at-third}
use Rattle.checker.proofs.DescentLaws.{no-fault, passed-of}

-- what stands in a record's fields for children is below its number
pub fields-below : (l : Language) (t : List ℕ) (n : ℕ) → Formed l t → 0 < n → n ≤ record_count t
    → (child_a t n < n) × (child_b t n < n) × (third_child (kind_of t n) (child_c t n) < n)
fields-below l t n formed some within =
    let keeps = no-fault l t formed n some within in
    (a-below l t n keeps some, b-below l t n keeps some, c-below l t n keeps some)

-- what is put for the children of record n is given to them
module _ (l : Language) (t : List ℕ) (n : ℕ) (keeps : record_fault l t n ≡ Ok tt)
    (u v w : ℕ) (f : ℕ → ℕ) (notes : List ℕ)
    (p : (child_a t n ≡ 0 → ⊥) → u ≡ f (child_a t n)) (q : (child_b t n ≡ 0 → ⊥) → v ≡ f (child_b t n))
    (r : (third l t n keeps ≡ 0 → ⊥) → w ≡ f (third l t n keeps)) where
  abbrev Right : ℕ → ℕ → Type 0
  Right j y = y ≡ cond (ltb 0 (times_child_of l t n j)) (f j) (get_or notes j 0)

  abbrev first : List ℕ
  first = put_at (child_a t n) u notes

  abbrev second : List ℕ
  second = put_at (child_b t n) v first

  second-length : length second ≡ length notes
  second-length = put-length (child_b t n) v first ∙ put-length (child_a t n) u notes

  its-child : (j y z : ℕ) → ((y ≡ 0 → ⊥) → z ≡ f y) → count y j ≤ times_child_of l t n j → 0 < count y j → Right j z
  its-child j y z e h g =
      let has = count-has y j g in
      e has.0 ∙ ap f has.1 ∙ sym (ap (λ (b : Bool). cond b (f j) (get_or notes j 0))
      (lt-ltb 0 (times_child_of l t n j) (omega arith)))

  right : (j : ℕ) → j < length notes → Right j (get_or (put_at (third l t n keeps) w second) j 0)
  right j h =
      let times = kept-times l t n keeps j in
      put_step (Right j) (third l t n keeps) w second j (omega (arith, second-length))
      (its-child j (third l t n keeps) w r (omega arith))
      (λ ec. put_step (Right j) (child_b t n) v first j (omega (arith, put-length (child_a t n) u notes))
      (its-child j (child_b t n) v q (omega arith))
      (λ eb. put_step (Right j) (child_a t n) u notes j h (its-child j (child_a t n) u p (omega arith))
      (λ ea. sym (ap (λ (b : Bool). cond b (f j) (get_or notes j 0))
      (le-ltb 0 (times_child_of l t n j) (omega arith))))))

  pub given-three : Given l t n f notes (put_at (third l t n keeps) w second)
  given-three = record { size = put-length (third l t n keeps) w second ∙ second-length; values = right }

-- the level of a term or predicate to its children, which are not the same
module _ (t : List ℕ) (kept : Kept source t) (n : ℕ) (some : 0 < n) (within : n ≤ record_count t)
    (is : is_term_or_predicate (kind_of t n) ≡ true) where
  keeps : record_fault source t n ≡ Ok tt
  keeps = no-fault source t kept.formed n some within

  third-is : third source t n keeps ≡ child_c t n
  third-is =
      let k = kind_of t n in
      let most : k ≤ 35 = leb-true k 35 (two-pass (leb 20 k) (leb k 35) is).1 in
      (λ i. cond (ne_eqb k 63 (λ e. omega arith) i || ne_eqb k 64 (λ e. omega arith) i) 0 (child_c t n))

  times : (j : ℕ)
      → times_child_of source t n j ≡ count (child_a t n) j + count (child_b t n) j + count (child_c t n) j
  times j =
      subst (λ (x : ℕ). times_child_of source t n j ≡ count (child_a t n) j + count (child_b t n) j + count x j)
      third-is (kept-times source t n keeps j)

  once : (j : ℕ) → 0 < times_child_of source t n j → times_child_of source t n j ≡ 1
  once j h =
      child-single source t (passed-of source t kept) n j (record { in_table = (some, within); has-child = h })

  pub levels-below : (child_a t n < n) × (child_b t n < n) × (child_c t n < n)
  levels-below =
      let below = fields-below source t n kept.formed some within in
      (below.0, below.1, subst (λ (x : ℕ). x < n) third-is below.2)

  module _ (v : ℕ) (notes : List ℕ) where
    abbrev at : ℕ → ℕ
    at i = level_below (kind_of t n) i v

    level-a : (child_a t n ≡ 0 → ⊥) → at 0 ≡ child_level t n v (child_a t n)
    level-a p = ap at (at_first (child_a t n) (child_b t n) (child_c t n) (child_a t n) refl)

    level-b : (child_b t n ≡ 0 → ⊥) → at 1 ≡ child_level t n v (child_b t n)
    level-b p =
        let b = child_b t n in
        let self = count-self b b p refl in
        let other : child_a t n ≡ b → ⊥ =
        λ e. omega (
          arith,
          times b,
          once b (omega (arith, times b)),
          count-self (child_a t n) b (λ z. p (omega arith)) e,
        ) in
        ap at (at_second (child_a t n) b (child_c t n) b other refl)

    level-c : (child_c t n ≡ 0 → ⊥) → at 2 ≡ child_level t n v (child_c t n)
    level-c p =
        let c = child_c t n in
        let self = count-self c c p refl in
        let other : (x : ℕ) → count x c + 1 ≤ times_child_of source t n c → x ≡ c → ⊥ =
        λ x h e. omega (arith, once c (omega (arith, times c)), count-self x c (λ z. p (omega arith)) e) in
        ap at
        (at-third (child_a t n) (child_b t n) c c (other (child_a t n) (omega (arith, times c)))
        (other (child_b t n) (omega (arith, times c))) refl)

    pub levels-given : Given source t n (child_level t n v) notes
        (put_at (child_c t n) (at 2) (put_at (child_b t n) (at 1) (put_at (child_a t n) (at 0) notes)))
    levels-given =
        subst (λ (x : ℕ). Given source t n (child_level t n v) notes
        (put_at x (at 2) (put_at (child_b t n) (at 1) (put_at (child_a t n) (at 0) notes)))) third-is
        (given-three source t n keeps (at 0) (at 1) (at 2) (child_level t n v) notes level-a level-b
        (λ p. subst (λ (x : ℕ). at 2 ≡ child_level t n v x) (sym third-is) (level-c (λ z. p (third-is ∙ z)))))
