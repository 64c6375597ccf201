-- Where a statement's change of the memory stops with 42 or 50, the pointer that was used tells why.
use Prim.Native.Nat.{ℕ, zero, suc}
use native.Mathlib.Omega.{arith}
use mathlib.Core.Path.{◌≡◌, refl}
use mathlib.Core.Logic.{◌≢◌}
use lib.IntN.{ℤ, pos, negsuc}
use Rattle.std.specs.Prelude.{Err, None, Ok, Some}
use Rattle.rules.specs.Types.{Evaluated, Found, Located, Search, stop_number}
use Rattle.rules.specs.declared.{Pointer.Pointer, Value.Value, Block.Block, Cell.Cell, Stop.Stop}
use Rattle.rules.specs.Trees.{Expression, Place}
use Rattle.rules.specs.Memory.{Memory, block_of, locate, at_cell, changed, stopped, set_cell, store_cell, next_name}
use Rattle.rules.specs.Memory.{free_run, freeable, with_block, make_at, assigned, store_new, new_of_size, allocated, free_of}
use Rattle.rules.specs.Memory.{free_at, freed}
use Rattle.rules.specs.Evaluation.{Variables, Holding, evaluate, find_place}
use Rattle.rules.proofs.Runs.EndedAt.{ChangeStops}
use Rattle.rules.proofs.Memory.Invariant.{Invariant}
use Rattle.rules.proofs.Memory.Room.{HasRoom, room}
use Rattle.rules_endings.specs.UsedPointers.{astray, used_by, used_to, used_storing, ToldApart}
use Rattle.rules_endings.proofs.KeptEvaluations.{SameValue, SamePlace, evaluate-kept, find_place-kept, read_kept}
use Rattle.rules_endings.proofs.KeptEvaluations.{living-kept}
use Rattle.rules_endings.proofs.UsedLaws.{IsNamed, PointersNamed, Whereabouts, at, dead, outside, whereabouts}
use Rattle.rules_endings.proofs.UsedLaws.{other, used-dead, used-outside, Tells, Told, FoundTold}
use Rattle.rules_endings.proofs.UsedLaws.{evaluate-told, find_place-told}

-- a store that stops tells of its pointer
stored-told : (P : Stop → Memory → Type 0) (m : Memory) (p : Pointer) (v : Value)
    → ((c : Stop) → (IsNamed m p.name → ToldApart c m (astray m p)) → P c m) → ChangeStops P (store_cell m p v)
stored-told P m p v h = go (locate m p) refl (whereabouts m p)
  where
    go : (l : Located) → locate m p ≡ l → Whereabouts m p l
        → ChangeStops P (at_cell (λ i. changed (set_cell m i (Cell.Holds p.name v))) (λ k. stopped k m) l)
    go _ e (at i) = tt
    go _ e (dead d) = h Stop.DeadBlock (λ n. rw e (used-dead m p (d n)))
    go _ e (outside d) = h Stop.OutsideBlock (λ n. rw e (used-outside m p d))

module _ {T : Type 0} (τ : Holding T) (ρ : Variables) where
  -- at memory m
  place-stopped : (m : Memory) (p : Place T) (c : Stop) → find_place p τ ρ m ≡ Err c
      → Tells τ ρ m (used_to p τ ρ m) c
  place-stopped m p c e =
      let h : FoundTold τ ρ m (used_to p τ ρ m) (Err c) = rw e at (find_place-told τ ρ m p) in
      h

  place-named : (m : Memory) (p : Place T) (q : Pointer) → find_place p τ ρ m ≡ Ok q → PointersNamed τ ρ m
      → IsNamed m q.name
  place-named m p q e =
      let h : FoundTold τ ρ m (used_to p τ ρ m) (Ok q) = rw e at (find_place-told τ ρ m p) in
      h

  value-stopped : (m : Memory) (e : Expression T) (c : Stop) → evaluate e τ ρ m ≡ Err c
      → Tells τ ρ m (used_by e τ ρ m) c
  value-stopped m e c d =
      let h : Told τ ρ m (used_by e τ ρ m) (Err c) = rw d at (evaluate-told τ ρ m e) in
      h

  -- kinds 41 and 42
  module _ (p : Place T) (e : Expression T) where
    abbrev pub StoreTells : Stop → Memory → Type 0
    StoreTells c m = Tells τ ρ m (used_storing p e τ ρ m) c

    -- another number, found before the store
    earlier : (m : Memory) (c : Stop) → stop_number c ≢ 42 → stop_number c ≢ 50 → StoreTells c m
    earlier m c d o n = other m (used_storing p e τ ρ m) c d o

    stored_at : (m : Memory) (q : Pointer) (v w : Value) → find_place p τ ρ m ≡ Ok q
        → evaluate e τ ρ m ≡ Ok v → ChangeStops StoreTells (store_cell m q w)
    stored_at m q v w a b = stored-told StoreTells m q w (λ c h n. rw (a, b) (h (place-named m p q a n)))

    pub assigned-told : (m : Memory) → ChangeStops StoreTells (assigned m (find_place p τ ρ m) (evaluate e τ ρ m))
    assigned-told m = go (find_place p τ ρ m) (evaluate e τ ρ m) refl refl
      where
        go : (f : Found) (r : Evaluated) → find_place p τ ρ m ≡ f → evaluate e τ ρ m ≡ r
            → ChangeStops StoreTells (assigned m f r)
        go (Err c) r a b = λ n. rw a (place-stopped m p c a n)
        go (Ok q) (Err c) a b = λ n. rw (a, b) (value-stopped m e c b n)
        go (Ok q) (Ok v) a b = stored_at m q v v a b

    -- the store is tried with the new block, which place and size did not see
    made_told : (m : Memory) (q : Pointer) (v : Value) (n : ℕ) (r s : Search) → Invariant m
        → find_place p τ ρ m ≡ Ok q → evaluate e τ ρ m ≡ Ok v → HasRoom m (suc n) r s
        → ChangeStops StoreTells (store_new m q (make_at m freeable (suc n) r s))
    made_told m q v n None s y a b h = earlier m Stop.NamesGiven (omega arith) (omega arith)
    made_told m q v n (Some k) None y a b h = earlier m Stop.NoRun (omega arith) (omega arith)
    made_told m q v n (Some k) (Some first) y a b h =
        let m₁ = with_block m freeable k first (suc n) in
        let kept = read_kept m freeable (suc n) k first h y in
        let living = living-kept m freeable (suc n) k first h y in
        let a₁ : SamePlace (Ok q) (find_place p τ ρ m₁) = rw a at (find_place-kept m m₁ kept living p τ ρ) in
        let b₁ : SameValue (Ok v) (evaluate e τ ρ m₁) = rw b at (evaluate-kept m m₁ kept living e τ ρ) in
        stored_at m₁ q v (Value.Pointer (record { name = k; offset = pos 0 })) a₁ b₁

    pub allocated-told : (m : Memory) → Invariant m
        → ChangeStops StoreTells (allocated m (find_place p τ ρ m) (evaluate e τ ρ m))
    allocated-told m y = go (find_place p τ ρ m) (evaluate e τ ρ m) refl refl
      where
        sized : (q : Pointer) (v : Value) (z : ℤ) → find_place p τ ρ m ≡ Ok q
            → evaluate e τ ρ m ≡ Ok v → ChangeStops StoreTells (new_of_size m q z)
        sized q v (pos zero) a b = earlier m Stop.SizeBelowOne (omega arith) (omega arith)
        sized q v (pos (suc n)) a b = made_told m q v n (next_name m) (free_run m (suc n)) y a b (room m (suc n))
        sized q v (negsuc n) a b = earlier m Stop.SizeBelowOne (omega arith) (omega arith)

        go : (f : Found) (r : Evaluated) → find_place p τ ρ m ≡ f → evaluate e τ ρ m ≡ r
            → ChangeStops StoreTells (allocated m f r)
        go (Err c) r a b = λ n. rw a (place-stopped m p c a n)
        go (Ok q) (Err c) a b = λ n. rw (a, b) (value-stopped m e c b n)
        go (Ok q) (Ok Value.Undefined) a b = earlier m Stop.WrongSort (omega arith) (omega arith)
        go (Ok q) (Ok (Value.Integer z)) a b = sized q (Value.Integer z) z a b
        go (Ok q) (Ok (Value.Pointer x)) a b = earlier m Stop.WrongSort (omega arith) (omega arith)

  -- kind 43
  pub freed-told : (e : Expression T) (m : Memory)
      → ChangeStops (λ c x. Tells τ ρ x (used_by e τ ρ x) c) (freed m (evaluate e τ ρ m))
  freed-told e m = go (evaluate e τ ρ m) refl
    where
      Freeing : Stop → Memory → Type 0
      Freeing c x = Tells τ ρ x (used_by e τ ρ x) c

      wrong-sort : Freeing Stop.WrongSort m
      wrong-sort n = other m (used_by e τ ρ m) Stop.WrongSort (omega arith) (omega arith)

      not_first : Freeing Stop.WrongFree m
      not_first n = other m (used_by e τ ρ m) Stop.WrongFree (omega arith) (omega arith)

      by-block : (k : ℕ) (b : Block) → ChangeStops Freeing (free_of m k b)
      by-block k Block.Unused = not_first
      by-block k (Block.Fixed first n) = not_first
      by-block k (Block.Freeable first n) = tt
      by-block k Block.Dead = not_first

      by-offset : (k : ℕ) (z : ℤ) → ChangeStops Freeing (free_at m k z)
      by-offset k (pos zero) = by-block k (block_of m k)
      by-offset k (pos (suc o)) = not_first
      by-offset k (negsuc o) = not_first

      go : (r : Evaluated) → evaluate e τ ρ m ≡ r → ChangeStops Freeing (freed m r)
      go (Err c) d = value-stopped m e c d
      go (Ok Value.Undefined) d = wrong-sort
      go (Ok (Value.Integer z)) d = wrong-sort
      go (Ok (Value.Pointer q)) d = by-offset q.name q.offset
