-- What holds of evaluations, changes and outcomes, by their parts.
use Prim.Native.Nat.{ℕ, zero, suc}
use mathlib.Core.Path.{◌≡◌, refl}
use lib.IntN.{ℤ, pos, negsuc}
use Rattle.std.specs.Prelude.{Err, None, Ok, Some, true, false}
use Rattle.rules.specs.Types.{Pointer, Value, Evaluated, Found, Test, Located, Search, Block, Cell, Miss, Stop}
use Rattle.rules.specs.Memory.{Memory, Change, changed, stopped, Use, freeable, Made, made, unmade, make_at}
use Rattle.rules.specs.Memory.{make_block, with_block, end_block, block_of, set_cell, locate, at_cell, store_cell}
use Rattle.rules.specs.Memory.{store_new, new_of_size, free_of, free_at, assigned, allocated, freed, on_value}
use Rattle.rules.specs.Memory.{on_place, on_integer, on_pointer}
use Rattle.rules.specs.Evaluation.{on_test}
use Rattle.rules.specs.Answers.{plain_endings}
use Rattle.rules.proofs.Lists.Among.{StopsAmong}

-- nothing asked
abbrev pub AnyNumber : Stop → Type 0
AnyNumber c = Unit {0}

abbrev pub AnyValue : Value → Type 0
AnyValue v = Unit {0}

abbrev pub AnyPlace : Pointer → Type 0
AnyPlace p = Unit {0}

abbrev pub AnyState : {S : Type 0} → S → Type 0
AnyState x = Unit {0}

-- G of the value that evaluating gives, C of the number it stops with
abbrev pub Gives : (Value → Type 0) → (Stop → Type 0) → Evaluated → Type 0
Gives G C (Ok v) = G v
Gives G C (Err c) = C c

abbrev pub Finds : (Pointer → Type 0) → (Stop → Type 0) → Found → Type 0
Finds G C (Ok p) = G p
Finds G C (Err c) = C c

abbrev pub TestStops : (Stop → Type 0) → Test → Type 0
TestStops C (Ok true) = Unit {0}
TestStops C (Ok false) = Unit {0}
TestStops C (Err c) = C c

pub any-test : (t : Test) → TestStops AnyNumber t
any-test (Ok true) = tt
any-test (Ok false) = tt
any-test (Err c) = tt

pub any-evaluated : (e : Evaluated) → Gives AnyValue AnyNumber e
any-evaluated (Ok v) = tt
any-evaluated (Err c) = tt

-- what holds by what evaluating gave, by a place, by the sort of a value, by a test
module _ {A : Type 0} (P : A → Type 0) (C : Stop → Type 0) (stop : Stop → A)
    (stops : (c : Stop) → C c → P (stop c)) where
  pub on_value_lem : {G : Value → Type 0} (e : Evaluated) (next : Value → A) → Gives G C e
      → ((v : Value) → G v → P (next v)) → P (on_value e stop next)
  on_value_lem (Ok v) next h g = g v h
  on_value_lem (Err c) next h g = stops c h

  pub on-place : {G : Pointer → Type 0} (f : Found) (next : Pointer → A) → Finds G C f
      → ((p : Pointer) → G p → P (next p)) → P (on_place f stop next)
  on-place (Ok p) next h g = g p h
  on-place (Err c) next h g = stops c h

  pub on-integer : (G : Value → Type 0) (v : Value) (next : ℤ → A) → C Stop.WrongSort → G v
      → ((z : ℤ) → G (Value.Integer z) → P (next z)) → P (on_integer v stop next)
  on-integer G Value.Undefined next c h g = stops Stop.WrongSort c
  on-integer G (Value.Integer z) next c h g = g z h
  on-integer G (Value.Pointer p) next c h g = stops Stop.WrongSort c

  pub on-pointer : (G : Value → Type 0) (v : Value) (next : Pointer → A) → C Stop.WrongSort → G v
      → ((p : Pointer) → G (Value.Pointer p) → P (next p)) → P (on_pointer v stop next)
  on-pointer G Value.Undefined next c h g = stops Stop.WrongSort c
  on-pointer G (Value.Integer z) next c h g = stops Stop.WrongSort c
  on-pointer G (Value.Pointer p) next c h g = g p h

  pub on-test : (t : Test) (x y : A) → TestStops C t → P x → P y → P (on_test t stop x y)
  on-test (Ok true) x y h p q = p
  on-test (Ok false) x y h p q = q
  on-test (Err c) x y h p q = stops c h

  pub at-cell : (l : Located) (at : ℕ → A) → C Stop.DeadBlock → C Stop.OutsideBlock → ((i : ℕ) → P (at i))
      → P (at_cell at stop l)
  at-cell (Ok i) at d o g = g i
  at-cell (Err Miss.Dead) at d o g = stops Stop.DeadBlock d
  at-cell (Err Miss.Outside) at d o g = stops Stop.OutsideBlock o

-- J of the state after a change, E of the number of a stop; K of a new block's name and state
abbrev pub ChangeKeeps : {S : Type 0} → (S → Type 0) → (Stop → Type 0) → Change S → Type 0
ChangeKeeps J E (changed m) = J m
ChangeKeeps J E (stopped c m) = E c × J m

abbrev pub MadeKeeps : {S : Type 0} → (ℕ → S → Type 0) → (Stop → Type 0) → Made S → Type 0
MadeKeeps K E (made k m) = K k m
MadeKeeps K E (unmade c) = E c

abbrev pub AnyMade : {S : Type 0} → ℕ → S → Type 0
AnyMade k x = Unit {0}

pub any-change : {S : Type 0} (c : Change S) → ChangeKeeps AnyState AnyNumber c
any-change (changed x) = tt
any-change (stopped c x) = (tt, tt)

pub any-made : {S : Type 0} (r : Made S) → MadeKeeps AnyMade AnyNumber r
any-made (made k x) = tt
any-made (unmade c) = tt

-- D is of the numbers that evaluating stops with, G of values and H of places
module _ (J : Memory → Type 0) (D E : Stop → Type 0) (known : (c : Stop) → StopsAmong plain_endings c → E c)
    (widen : (c : Stop) → D c → E c)
    (G : Value → Type 0) (H : Pointer → Type 0) where
  pub store_cell-keeps : (m : Memory) (p : Pointer) (v : Value) → J m
      → ((i : ℕ) → J (set_cell m i (Cell.Holds p.name v))) → ChangeKeeps J E (store_cell m p v)
  store_cell-keeps m p v j g =
      at-cell (ChangeKeeps J E) E (λ k. stopped k m) (λ c x. (x, j)) (locate m p) _ (known Stop.DeadBlock refl)
      (known Stop.OutsideBlock refl) g

  pub assigned-keeps : (m : Memory) (f : Found) (e : Evaluated) → J m → Finds H D f → Gives G D e
      → ((p : Pointer) (v : Value) → H p → G v → (i : ℕ) → J (set_cell m i (Cell.Holds p.name v)))
      → ChangeKeeps J E (assigned m f e)
  assigned-keeps m f e j hf he g =
      on-place (ChangeKeeps J E) D (λ k. stopped k m) (λ c x. (widen c x, j)) f _ hf (λ p hp.
      on_value_lem (ChangeKeeps J E) D (λ k. stopped k m) (λ c x. (widen c x, j)) e _ he (λ v hv.
      store_cell-keeps m p v j (λ i. g p v hp hv i)))

  pub make_at-keeps : (K : ℕ → Memory → Type 0) (m : Memory) (u : Use) (n : ℕ) (r s : Search)
      → ((k first : ℕ) → r ≡ Some k → s ≡ Some first → K k (with_block m u k first n))
      → MadeKeeps K E (make_at m u n r s)
  make_at-keeps K m u n None s g = known Stop.NamesGiven refl
  make_at-keeps K m u n (Some k) None g = known Stop.NoRun refl
  make_at-keeps K m u n (Some k) (Some first) g = g k first refl refl

  store_new-keeps : {K : ℕ → Memory → Type 0} (m : Memory) (p : Pointer) (x : Made Memory) → J m → MadeKeeps K E x
      → ((k : ℕ) (m₁ : Memory) → K k m₁ → J m₁)
      → ((k : ℕ) (m₁ : Memory) → K k m₁ → (i : ℕ)
      → J (set_cell m₁ i (Cell.Holds p.name (Value.Pointer (record { name = k; offset = pos 0 })))))
      → ChangeKeeps J E (store_new m p x)
  store_new-keeps m p (made k m₁) j h g₁ g₂ = store_cell-keeps m₁ p _ (g₁ k m₁ h) (g₂ k m₁ h)
  store_new-keeps m p (unmade c) j h g₁ g₂ = (h, j)

  pub allocated_keeps : {K : ℕ → Memory → Type 0} (m : Memory) (f : Found) (e : Evaluated) → J m
      → Finds H D f → Gives G D e → D Stop.WrongSort
      → ((n : ℕ) → MadeKeeps K E (make_block m freeable (suc n)))
      → ((k : ℕ) (m₁ : Memory) → K k m₁ → J m₁)
      → ((p : Pointer) → H p → (k : ℕ) (m₁ : Memory) → K k m₁ → (i : ℕ)
      → J (set_cell m₁ i (Cell.Holds p.name (Value.Pointer (record { name = k; offset = pos 0 })))))
      → ChangeKeeps J E (allocated m f e)
  allocated_keeps m f e j hf he d makes g₁ g₂ =
      on-place (ChangeKeeps J E) D (λ k. stopped k m) (λ c x. (widen c x, j)) f _ hf (λ p hp.
      on_value_lem (ChangeKeeps J E) D (λ k. stopped k m) (λ c x. (widen c x, j)) e _ he (λ v hv.
      on-integer (ChangeKeeps J E) D (λ k. stopped k m) (λ c x. (widen c x, j)) G v _ d hv (λ z hz. sized p hp z)))
    where
      sized : (p : Pointer) → H p → (z : ℤ) → ChangeKeeps J E (new_of_size m p z)
      sized p hp (pos zero) = (known Stop.SizeBelowOne refl, j)
      sized p hp (pos (suc n)) = store_new-keeps m p (make_block m freeable (suc n)) j (makes n) g₁ (g₂ p hp)
      sized p hp (negsuc n) = (known Stop.SizeBelowOne refl, j)

  free_at-keeps : (m : Memory) (k : ℕ) (z : ℤ) → J m → J (end_block m k) → ChangeKeeps J E (free_at m k z)
  free_at-keeps m k (pos zero) j g = by-block (block_of m k)
    where
      by-block : (b : Block) → ChangeKeeps J E (free_of m k b)
      by-block Block.Unused = (known Stop.WrongFree refl, j)
      by-block (Block.Fixed first n) = (known Stop.WrongFree refl, j)
      by-block (Block.Freeable first n) = g
      by-block Block.Dead = (known Stop.WrongFree refl, j)
  free_at-keeps m k (pos (suc o)) j g = (known Stop.WrongFree refl, j)
  free_at-keeps m k (negsuc o) j g = (known Stop.WrongFree refl, j)

  pub freed-keeps : (m : Memory) (e : Evaluated) → J m → Gives G D e → D Stop.WrongSort → ((k : ℕ) → J (end_block m k))
      → ChangeKeeps J E (freed m e)
  freed-keeps m e j he d g =
      on_value_lem (ChangeKeeps J E) D (λ k. stopped k m) (λ c x. (widen c x, j)) e _ he (λ v hv.
      on-pointer (ChangeKeeps J E) D (λ k. stopped k m) (λ c x. (widen c x, j)) G v _ d hv (λ p hp.
      free_at-keeps m p.name p.offset j (g p.name)))
