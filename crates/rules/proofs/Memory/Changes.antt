-- Each change that a statement makes keeps the memory's invariant.
use Prim.Native.Nat.{ℕ, zero, suc}
use mathlib.Core.Path.{◌≡◌, refl}
use mathlib.Core.Bool.{false}
use lib.IntN.{ℤ, pos, negsuc}
use Rattle.std.specs.Prelude.{Err, None, Ok, Some}
use Rattle.rules.specs.Types.{Pointer, Value, Evaluated, Found, Search, Block}
use Rattle.rules.specs.Memory.{Memory, block_of, Change, changed, stopped, is_unused, next_name, free_run, Use}
use Rattle.rules.specs.Memory.{freeable, Made, made, unmade, make_at, make_block, assigned, store_new, new_of_size}
use Rattle.rules.specs.Memory.{allocated, free_of, freed}
use Rattle.rules.proofs.Runs.Keeping.{AnyNumber, ChangeKeeps, MadeKeeps}
use Rattle.rules.proofs.Memory.Invariant.{Invariant, Onward, onward-itself, onward_then, changed_memory}
use Rattle.rules.proofs.Memory.Room.{HasRoom, room}
use Rattle.rules.proofs.Memory.BlockChanges.{onward-cell, onward-make, make-given, onward-free}

pub change-kept : (m : Memory) (c : Change Memory) → Onward m (changed_memory c) → ChangeKeeps (Onward m) AnyNumber c
change-kept m (changed m₁) h = h
change-kept m (stopped c m₁) h = (tt, h)

pub onward-assigned : (m : Memory) (f : Found) (e : Evaluated) → Invariant m
    → Onward m (changed_memory (assigned m f e))
onward-assigned m (Err k) e y = onward-itself y
onward-assigned m (Ok p) (Err k) y = onward-itself y
onward-assigned m (Ok p) (Ok v) y = onward-cell m p v y

-- a block that is made has a name that was unused, and is no more
abbrev pub Given : Memory → ℕ → Memory → Type 0
Given m k m₁ = (block_of m k ≡ Block.Unused) × Onward m m₁ × (is_unused (block_of m₁ k) ≡ false)

abbrev pub MadeFrom : Memory → Made Memory → Type 0
MadeFrom m r = MadeKeeps (Given m) AnyNumber r

pub onward-made : (m : Memory) (u : Use) (n : ℕ) → Invariant m → MadeFrom m (make_block m u n)
onward-made m u n y = go (next_name m) (free_run m n) (room m n)
  where
    go : (r s : Search) → HasRoom m n r s → MadeFrom m (make_at m u n r s)
    go None s h = tt
    go (Some k) None h = tt
    go (Some k) (Some first) h = (h.unused, onward-make m u n k first h y, make-given m u n k first h y)

onward-new : (m : Memory) (p : Pointer) (r : Made Memory) → MadeFrom m r → Invariant m
    → Onward m (changed_memory (store_new m p r))
onward-new m p (made k m₁) h y =
    onward_then h.1 (onward-cell m₁ p (Value.Pointer (record { name = k; offset = pos 0 })) h.1.invariant)
onward-new m p (unmade c) h y = onward-itself y

onward-sized : (m : Memory) (p : Pointer) (z : ℤ) → Invariant m → Onward m (changed_memory (new_of_size m p z))
onward-sized m p (pos zero) y = onward-itself y
onward-sized m p (pos (suc n)) y = onward-new m p (make_block m freeable (suc n)) (onward-made m freeable (suc n) y) y
onward-sized m p (negsuc n) y = onward-itself y

pub onward-allocated : (m : Memory) (f : Found) (e : Evaluated) → Invariant m
    → Onward m (changed_memory (allocated m f e))
onward-allocated m (Err k) e y = onward-itself y
onward-allocated m (Ok p) (Err k) y = onward-itself y
onward-allocated m (Ok p) (Ok Value.Undefined) y = onward-itself y
onward-allocated m (Ok p) (Ok (Value.Integer z)) y = onward-sized m p z y
onward-allocated m (Ok p) (Ok (Value.Pointer q)) y = onward-itself y

onward-free_of : (m : Memory) (k : ℕ) (b : Block) → block_of m k ≡ b → Invariant m
    → Onward m (changed_memory (free_of m k b))
onward-free_of m k Block.Unused e y = onward-itself y
onward-free_of m k (Block.Fixed first n) e y = onward-itself y
onward-free_of m k (Block.Freeable first n) e y = onward-free m k first n e y
onward-free_of m k Block.Dead e y = onward-itself y

onward-free_at : (m : Memory) (p : Pointer) → Invariant m
    → Onward m (changed_memory (freed m (Ok (Value.Pointer p))))
onward-free_at m p y = go p.offset
  where
    go : (z : ℤ)
        → Onward m (changed_memory (freed m (Ok (Value.Pointer (record { name = p.name; offset = z })))))
    go (pos zero) = onward-free_of m p.name (block_of m p.name) refl y
    go (pos (suc o)) = onward-itself y
    go (negsuc o) = onward-itself y

pub onward-freed : (m : Memory) (e : Evaluated) → Invariant m → Onward m (changed_memory (freed m e))
onward-freed m (Err k) y = onward-itself y
onward-freed m (Ok Value.Undefined) y = onward-itself y
onward-freed m (Ok (Value.Integer z)) y = onward-itself y
onward-freed m (Ok (Value.Pointer p)) y = onward-free_at m p y
