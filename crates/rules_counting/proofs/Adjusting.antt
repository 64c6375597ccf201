-- What each change of a memory does to the number of its free cells: a new block takes its length, an ended one gives
-- it back, a store keeps it.
use Prim.Native.Nat.{ℕ, zero, suc, ◌+◌, ◌≤◌}
use native.Mathlib.Omega.{arith}
use mathlib.Core.Path.{◌≡◌, refl, sym, ap, ◌∙◌}
use mathlib.Core.List.{List, [], ◌∷◌, map}
use lib.ListN.{length, length-map}
use Rattle.std.specs.Prelude.{None, Some}
use Rattle.rules.specs.Types.{Search}
use Rattle.rules.specs.declared.{Pointer.Pointer, Value.Value, Block.Block, Recorded.Recorded}
use Rattle.rules.specs.Sizes.{cell_count}
use Rattle.rules.specs.Memory.{Memory, recorded_of, named, block_of, set_named, Change, stopped, locate, store_cell}
use Rattle.rules.specs.Memory.{next_name, free_run, Use, block_for, with_block, make_at, make_block, end_block, count_free}
use Rattle.rules.proofs.Runs.Keeping.{AnyNumber, MadeKeeps, at-cell}
use Rattle.rules.proofs.Memory.MemoryLaws.{map-set_named, named-map, named_in}
use Rattle.rules.proofs.Memory.Invariant.{Invariant, changed_memory}
use Rattle.rules.proofs.Memory.Totals.{length_of, live_length, total}
use Rattle.rules.proofs.Memory.Room.{HasRoom, room}
use Rattle.rules.proofs.Memory.BlockChanges.{onward-make, recorded-for, end-invariant, dead-is-not-live}

-- the lengths of live blocks, after the block of one name was set
live-set_named : (l : List Recorded) (k : ℕ) (x : Recorded) → 1 ≤ k → k ≤ length l
    → live_length (set_named l k x) + length_of (named l k Recorded.Dead) ≡ live_length l + length_of x
live-set_named l zero x h le = absurd (omega arith)
live-set_named [] (suc k) x h le = absurd (omega arith)
live-set_named (b ∷ l) (suc zero) x h le = omega arith
live-set_named (b ∷ l) (suc (suc k)) x h le = omega (arith, live-set_named l (suc k) x (omega arith) (omega arith))

live-block : (l : List Block) (k : ℕ) (x : Block) → 1 ≤ k → k ≤ length l
    → live_length (map recorded_of (set_named l k x)) + length_of (recorded_of (named l k Block.Dead))
    ≡ live_length (map recorded_of l) + length_of (recorded_of x)
live-block l k x h le =
    let r = live-set_named (map recorded_of l) k (recorded_of x) h (omega (arith, length-map l recorded_of)) in
    rw (map-set_named recorded_of l k x, ← (named-map recorded_of l k Block.Dead)) r

-- a new block takes its cells
abbrev pub Takes : Memory → ℕ → Memory → Type 0
Takes m n m₁ = count_free m₁.cells + n ≡ count_free m.cells

pub new-takes : (m : Memory) (u : Use) (n : ℕ) → Invariant m
    → MadeKeeps (λ k m₁. Takes m n m₁) AnyNumber (make_block m u n)
new-takes m u n y = go (next_name m) (free_run m n) (room m n)
  where
    go : (r s : Search) → HasRoom m n r s → MadeKeeps (λ k m₁. Takes m n m₁) AnyNumber (make_at m u n r s)
    go None s h = tt
    go (Some k) None h = tt
    go (Some k) (Some first) h =
        let z = live-block m.blocks k (block_for u first n) h.from (omega (arith, h.to, y.names)) in
        omega (
          arith,
          total m y,
          total (with_block m u k first n) (onward-make m u n k first h y).invariant,
          rw (h.unused, recorded-for u first n) at z,
        )

-- an ended one gives them back
pub end-gives-back : (m : Memory) (k first n : ℕ) → Invariant m → recorded_of (block_of m k) ≡ Recorded.Live first n
    → count_free (end_block m k).cells ≡ count_free m.cells + n
end-gives-back m k first n y e =
    let r = named_in m.blocks k Block.Dead (λ d. dead-is-not-live first n (sym (ap recorded_of d) ∙ e)) in
    let z = live-block m.blocks k Block.Dead r.0 r.1 in
    let t = total (end_block m k) (end-invariant m k y) in
    rw e (omega (arith, total m y, rw e at t, rw e at z))

pub free_bound : (m : Memory) → Invariant m → count_free m.cells ≤ cell_count
free_bound m y = omega (arith, total m y)

-- where the blocks stay as they are, so does the number
pub blocks-decide : (m m₁ : Memory) → Invariant m → Invariant m₁ → m₁.blocks ≡ m.blocks
    → count_free m₁.cells ≡ count_free m.cells
blocks-decide m m₁ y y₁ e =
    omega (arith, total m y, total m₁ y₁, ap (λ (l : List Block). live_length (map recorded_of l)) e)

pub store-blocks : (m : Memory) (p : Pointer) (v : Value) → (changed_memory (store_cell m p v)).blocks ≡ m.blocks
store-blocks m p v =
    at-cell (λ (c : Change Memory). (changed_memory c).blocks ≡ m.blocks) AnyNumber (λ k. stopped k m) (λ c x. refl)
    (locate m p) _ tt tt (λ i. refl)
