-- What a place or an expression gives, it gives after a new block too: all that it read lies in other blocks.
use Prim.Native.Nat.{ℕ, ◌≤◌}
use native.Mathlib.Omega.{arith}
use mathlib.Core.Bool.{Bool, true, false, cond, ◌&&◌, false≢true}
use mathlib.Core.Logic.{◌≢◌}
use mathlib.Core.Path.{◌≡◌, refl, sym, ap, ◌∙◌}
use Rattle.std.specs.Prelude.{Err, Ok}
use Rattle.rules.specs.Types.{Evaluated, Found, Located}
use Rattle.rules.specs.declared.{Pointer.Pointer, Value.Value, Block.Block, Cell.Cell, Miss.Miss, Stop.Stop}
use Rattle.rules.specs.Trees.{Operator, add, subtract, multiply, divide, nearest, at_most, equal, shift}
use Rattle.rules.specs.Trees.{Expression, literal, read, address, operation, shifted, Place, variable}
use Rattle.rules.specs.Trees.{pointed, temporary}
use Rattle.rules.specs.Memory.{Memory, recorded_of, block_of, cell_of, located_in, locate, defined, read_cell, is_free, Use}
use Rattle.rules.specs.Memory.{block_for, with_block, on_place, on_pointer, live_block, is_live}
use Rattle.rules.specs.Numbers.{operate, Liveness, on_pointers, on_integers, truth_value, on_pointer_and_integer, same_pointer}
use Rattle.rules.specs.Evaluation.{Variables, Holding, held, pointed_by, address_of, operated, evaluate, find_place}
use Rattle.rules.specs.Evaluation.{is_valid}
use Rattle.rules.proofs.Memory.MemoryLaws.{named-set_named-other, Covering, inside, below, above, covering, fill-below}
use Rattle.rules.proofs.Memory.MemoryLaws.{fill-above}
use Rattle.rules.proofs.Memory.Invariant.{occupied, Invariant}
use Rattle.rules.proofs.Memory.BlockChanges.{covered-once}
use Rattle.rules.proofs.Memory.Pointing.{Leads, leads}
use Rattle.rules.proofs.Memory.Room.{Room}

-- a value that was given is given again
abbrev pub SameValue : Evaluated → Evaluated → Type 0
SameValue (Ok v) r = r ≡ Ok v
SameValue (Err c) r = Unit {0}

abbrev pub SamePlace : Found → Found → Type 0
SamePlace (Ok p) r = r ≡ Ok p
SamePlace (Err c) r = Unit {0}

same-itself : (e : Evaluated) → SameValue e e
same-itself (Ok v) = refl
same-itself (Err c) = tt

found-itself : (f : Found) → SamePlace f f
found-itself (Ok p) = refl
found-itself (Err c) = tt

-- an operation gives its value again where the blocks that were live are
module _ (live live₁ : Liveness) (living : (k : ℕ) → live k ≡ true → live₁ k ≡ true) where
  pointers-kept : (o : Operator) (p q : Pointer) → SameValue (on_pointers live o p q) (on_pointers live₁ o p q)
  unfolding on_pointers
  pointers-kept equal p q = go (live p.name) (live q.name) refl refl
    where
      r : Evaluated
      r = truth_value (same_pointer p q)

      go : (a b : Bool) → live p.name ≡ a → live q.name ≡ b
          → SameValue (cond (a && b) r (Err Stop.NotLive))
          (cond (live₁ p.name && live₁ q.name) r (Err Stop.NotLive))
      go true true d e = rw (living p.name d, living q.name e) (same-itself r)
      go true false d e = tt
      go false b d e = tt
  pointers-kept add p q = tt
  pointers-kept subtract p q = tt
  pointers-kept multiply p q = tt
  pointers-kept divide p q = tt
  pointers-kept nearest p q = tt
  pointers-kept at_most p q = tt
  pointers-kept shift p q = tt

  operate-kept : (o : Operator) (x y : Value) → SameValue (operate live o x y) (operate live₁ o x y)
  unfolding operate
  operate-kept o Value.Undefined y = tt
  operate-kept o (Value.Integer x) Value.Undefined = tt
  operate-kept o (Value.Integer x) (Value.Integer y) = same-itself (on_integers o x y)
  operate-kept o (Value.Integer x) (Value.Pointer q) = tt
  operate-kept o (Value.Pointer p) Value.Undefined = tt
  operate-kept o (Value.Pointer p) (Value.Integer y) = same-itself (on_pointer_and_integer o p y)
  operate-kept o (Value.Pointer p) (Value.Pointer q) = pointers-kept o p q

  operated-kept : (o : Operator) (a b a₁ b₁ : Evaluated) → SameValue a a₁ → SameValue b b₁
      → SameValue (operated live o a b) (operated live₁ o a₁ b₁)
  operated-kept o (Err c) b a₁ b₁ h g = tt
  operated-kept o (Ok x) (Err c) a₁ b₁ h g = tt
  operated-kept o (Ok x) (Ok y) a₁ b₁ h g = rw (h, g) (operate-kept o x y)

pointed-kept : (e e₁ : Evaluated) → SameValue e e₁ → SamePlace (pointed_by e) (pointed_by e₁)
pointed-kept (Err c) e₁ h = tt
pointed-kept (Ok v) e₁ h = rw h (found-itself (on_pointer v Err Ok))

address_kept : (f f₁ : Found) → SamePlace f f₁ → SameValue (address_of f) (address_of f₁)
address_kept (Err c) f₁ h = tt
address_kept (Ok p) f₁ h = rw h refl

-- two memories of which the second gives every value that the first gives, and has every block live that the first has
module _ (m m₁ : Memory) (kept : (p : Pointer) → SameValue (read_cell m p) (read_cell m₁ p))
    (living : (k : ℕ) → live_block m k ≡ true → live_block m₁ k ≡ true) where
  reading-kept : (f f₁ : Found) → SamePlace f f₁
      → SameValue (on_place f Err (read_cell m)) (on_place f₁ Err (read_cell m₁))
  reading-kept (Err c) f₁ h = tt
  reading-kept (Ok p) f₁ h = rw h (kept p)

  mutual
    unfolding evaluate

    pub evaluate-kept : {T : Type 0} (e : Expression T) (τ : Holding T) (ρ : Variables)
        → SameValue (evaluate e τ ρ m) (evaluate e τ ρ m₁)
    evaluate-kept (literal z) τ ρ = refl
    evaluate-kept (read p) τ ρ = reading-kept (find_place p τ ρ m) (find_place p τ ρ m₁) (find_place-kept p τ ρ)
    evaluate-kept (address p) τ ρ = address_kept (find_place p τ ρ m) (find_place p τ ρ m₁) (find_place-kept p τ ρ)
    evaluate-kept (operation o a b) τ ρ =
        operated-kept (live_block m) (live_block m₁) living o (evaluate a τ ρ m) (evaluate b τ ρ m)
        (evaluate a τ ρ m₁) (evaluate b τ ρ m₁) (evaluate-kept a τ ρ) (evaluate-kept b τ ρ)
    evaluate-kept (shifted a b) τ ρ =
        operated-kept (live_block m) (live_block m₁) living shift (evaluate a τ ρ m) (evaluate b τ ρ m)
        (evaluate a τ ρ m₁) (evaluate b τ ρ m₁) (evaluate-kept a τ ρ) (evaluate-kept b τ ρ)

    pub find_place-kept : {T : Type 0} (p : Place T) (τ : Holding T) (ρ : Variables)
        → SamePlace (find_place p τ ρ m) (find_place p τ ρ m₁)
    find_place-kept (variable x) τ ρ = refl
    find_place-kept (pointed e) τ ρ = pointed-kept (evaluate e τ ρ m) (evaluate e τ ρ m₁) (evaluate-kept e τ ρ)
    find_place-kept (temporary t) τ ρ = found-itself (pointed_by (held (τ t)))

-- a new block: its name was unused and its cells were free, so no read went there
module _ (m : Memory) (u : Use) (n k first : ℕ) (room : Room m n k first) (y : Invariant m) where
  abbrev m₁ : Memory
  m₁ = with_block m u k first n

  occupied-free : (c : Cell) → is_free c ≡ true → occupied c ≡ 0
  occupied-free Cell.Free e = refl
  occupied-free (Cell.Holds o v) e = absurd (false≢true e)

  cell-kept : (i : ℕ) → 1 ≤ occupied (cell_of m i) → cell_of m₁ i ≡ cell_of m i
  cell-kept i h = go (covering first n i)
    where
      x : Cell
      x = Cell.Holds k Value.Undefined

      go : {b : Bool} → Covering first n i b → cell_of m₁ i ≡ cell_of m i
      go (inside p q) = absurd (omega (arith, h, occupied-free (cell_of m i) (room.clear i p q)))
      go (below p) = fill-below m.cells first n x i Cell.Free p
      go (above p) = fill-above m.cells first n x i Cell.Free p

  -- the name is not that of the new block
  other_name : (p : Pointer) (i : ℕ) → locate m p ≡ Ok i → p.name ≢ k
  unfolding locate
  other_name p i e d =
      false≢true (ap is_valid
      (sym (ap (λ (b : Block). located_in (recorded_of b) p.offset) (ap (block_of m) d ∙ room.unused)) ∙ e))

  pub living-kept : (j : ℕ) → live_block m j ≡ true → live_block m₁ j ≡ true
  living-kept j h =
      ap (λ (b : Block). is_live (recorded_of b))
      (named-set_named-other m.blocks k j (block_for u first n) Block.Dead (λ e.
      false≢true (sym (ap (λ (b : Block). is_live (recorded_of b)) (ap (block_of m) e ∙ room.unused)) ∙ h))) ∙ h

  located-kept : (p : Pointer) (i : ℕ) → locate m p ≡ Ok i → locate m₁ p ≡ Ok i
  unfolding locate
  located-kept p i e =
      ap (λ (b : Block). located_in (recorded_of b) p.offset)
      (named-set_named-other m.blocks k p.name (block_for u first n) Block.Dead (other_name p i e)) ∙ e

  pub read_kept : (p : Pointer) → SameValue (read_cell m p) (read_cell m₁ p)
  read_kept p = go (locate m p) refl
    where
      covered : (i : ℕ) → locate m p ≡ Ok i → 1 ≤ occupied (cell_of m i)
      covered i e =
          let l : Leads m p.name (Ok i) = rw e at (leads m p y) in
          omega (arith, y.cover i, covered-once m p.name i l.0)

      go : (l : Located) → locate m p ≡ l → SameValue (read_cell m p) (read_cell m₁ p)
      go (Err Miss.Dead) e = rw e tt
      go (Err Miss.Outside) e = rw e tt
      go (Ok i) e =
          rw (e, located-kept p i e, cell-kept i (covered i e)) (same-itself (defined (cell_of m i)))
