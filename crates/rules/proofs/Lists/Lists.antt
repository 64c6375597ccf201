-- Laws of a predicate of every element, and of the lists that memories make.
use Prim.Native.Nat.{ℕ, zero, suc}
use mathlib.Core.Path.{◌≡◌, refl, ap}
use mathlib.Core.List.{List, [], ◌∷◌, ◌++◌, map}
use lib.ListN.{length, get_or, set, replicate, length-set}
use Rattle.rules.specs.Memory.{named, fill, set_named}
use Rattle.rules.specs.Fits.{All, none, also}

module _ {A : Type 0} {P : A → Type 0} where
  pub all_get_d : {xs : List A} → All P xs → (i : ℕ) (d : A) → P d → P (get_or xs i d)
  all_get_d none i d h = h
  all_get_d (also p r) zero d h = p
  all_get_d (also p r) (suc i) d h = all_get_d r i d h

  pub all_set : {xs : List A} → All P xs → (i : ℕ) {x : A} → P x → All P (set xs i x)
  all_set none i h = none
  all_set (also p r) zero h = also h r
  all_set (also p r) (suc i) h = also p (all_set r i h)

  pub all-fill : {xs : List A} → All P xs → (s n : ℕ) {x : A} → P x → All P (fill xs s n x)
  all-fill none s n h = none
  all-fill (also p r) zero zero h = also p r
  all-fill (also p r) zero (suc n) h = also h (all-fill r zero n h)
  all-fill (also p r) (suc s) n h = also p (all-fill r s n h)

  pub all_append : {xs ys : List A} → All P xs → All P ys → All P (xs ++ ys)
  all_append none k = k
  all_append (also p r) k = also p (all_append r k)

  pub all_replicate : (n : ℕ) (x : A) → P x → All P (replicate n x)
  all_replicate zero x h = none
  all_replicate (suc n) x h = also h (all_replicate n x h)

  pub all_named : {xs : List A} → All P xs → (k : ℕ) (d : A) → P d → P (named xs k d)
  all_named r zero d h = h
  all_named r (suc k) d h = all_get_d r k d h

  pub all-set_named : {xs : List A} → All P xs → (k : ℕ) {x : A} → P x → All P (set_named xs k x)
  all-set_named r zero h = r
  all-set_named r (suc k) h = all_set r k h

pub all-change : {A : Type 0} {P Q : A → Type 0} → ((x : A) → P x → Q x) → {xs : List A} → All P xs → All Q xs
all-change g none = none
all-change g (also p r) = also (g _ p) (all-change g r)

pub all_map : {A B : Type 0} {P : A → Type 0} {Q : B → Type 0} (f : A → B) → ((x : A) → P x → Q (f x))
    → {xs : List A} → All P xs → All Q (map f xs)
all_map f g none = none
all_map f g (also p r) = also (g _ p) (all_map f g r)

pub length-fill : {A : Type 0} (xs : List A) (s n : ℕ) (x : A) → length (fill xs s n x) ≡ length xs
length-fill [] s n x = refl
length-fill (y ∷ ys) zero zero x = refl
length-fill (y ∷ ys) zero (suc n) x = ap suc (length-fill ys zero n x)
length-fill (y ∷ ys) (suc s) n x = ap suc (length-fill ys s n x)

pub length-set_named : {A : Type 0} (xs : List A) (k : ℕ) (x : A) → length (set_named xs k x) ≡ length xs
length-set_named xs zero x = refl
length-set_named xs (suc k) x = length-set xs k x
