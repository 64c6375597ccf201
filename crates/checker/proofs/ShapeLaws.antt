-- Rule 6 at a record.
use Rattle.rules.specs.Kinds.{Language}
use Prim.Native.Nat.{ℕ}
use mathlib.Core.Bool.{Bool, true, false, not}
use mathlib.Core.List.{List}
use mathlib.Core.Path.{◌≡◌, refl, sym, ◌∙◌}
use borrow.Author.Tests.{eq-eqb, ne_eqb}
use lib.Dec.{eqb}
use Rattle.rules.specs.Records.{record_count, kind_of}
use Rattle.rules.specs.Checker.{sort_of, times_child, shape_fault}

abbrev pick_shape : Bool → Bool → Bool → Bool
pick_shape b p q = elim b [ true ↦ p | false ↦ q ]

shape-as : (l : Language) (t : List ℕ) (n : ℕ) → shape_fault l t n
    ≡ pick_shape (eqb n (record_count t)) (not (eqb (sort_of l (kind_of t n)) 5))
    (not (eqb (times_child l t (record_count t) n) 1))
unfolding shape_fault
shape-as l t n = refl

pub shape-last : (l : Language) (t : List ℕ) (n x : ℕ) → n ≡ record_count t → x ≡ sort_of l (kind_of t n)
    → not (eqb x 5) ≡ shape_fault l t n
shape-last l t n x e k =
    sym (shape-as l t n
    ∙ (λ i. pick_shape (eq-eqb n (record_count t) e i) (not (eqb (sym k i) 5))
    (not (eqb (times_child l t (record_count t) n) 1))))

pub shape-other : (l : Language) (t : List ℕ) (n times : ℕ) → (n ≡ record_count t → ⊥)
    → times ≡ times_child l t (record_count t) n → not (eqb times 1) ≡ shape_fault l t n
shape-other l t n times e h =
    sym (shape-as l t n
    ∙ (λ i. pick_shape (ne_eqb n (record_count t) e i) (not (eqb (sort_of l (kind_of t n)) 5)) (not (eqb (sym h i) 1))))
