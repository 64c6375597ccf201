-- Stores, new blocks and ended blocks keep the memory's invariant.
use Prim.Native.Nat.{ℕ, zero, suc, ◌+◌, ◌≤◌, ◌<◌}
use native.Mathlib.Omega.{arith}
use native.Mathlib.Decide.{ℕ_discrete}
use mathlib.Core.Path.{◌≡◌, refl, sym, ap, ◌∙◌}
use mathlib.Core.Logic.{◌≢◌, ◌⊎◌, inl, inr}
use mathlib.Core.Bool.{Bool, true, false, true≢false}
use mathlib.Core.List.{List, [], ◌∷◌, map}
use lib.ListN.{length, get_or, set, length-set, length-map}
use lib.Seq.{get_or-set_same, get_or-set_other}
use Rattle.rules.specs.Types.{Pointer, Value, Block, Recorded, Cell}
use Rattle.rules.specs.Sizes.{cell_count}
use Rattle.rules.specs.Memory.{Memory, recorded_of, named, block_of, cell_of, stopped, set_cell, store_cell, set_named}
use Rattle.rules.specs.Memory.{is_free, is_unused, Use, fixed, freeable, block_for, with_block, without_cells}
use Rattle.rules.specs.Memory.{end_block, one}
use Rattle.rules.specs.Observation.{covers}
use Rattle.rules.proofs.Lists.Lists.{length-set_named, length-fill}
use Rattle.rules.proofs.Memory.MemoryLaws.{map-set_named, named-map, named_in, named-set_named-same}
use Rattle.rules.proofs.Memory.MemoryLaws.{named-set_named-other}
use Rattle.rules.proofs.Memory.MemoryLaws.{named-set_named, fill-inside, fill-below, fill-above, Covering, inside}
use Rattle.rules.proofs.Memory.MemoryLaws.{below}
use Rattle.rules.proofs.Memory.MemoryLaws.{above, covering, coverage, coverage-set_named, coverage-named}
use Rattle.rules.proofs.Memory.Invariant.{occupied, at_most_one, records_of, Owned, Invariant, Becomes}
use Rattle.rules.proofs.Memory.Invariant.{becomes-itself}
use Rattle.rules.proofs.Memory.Invariant.{Onward, onward-itself, changed_memory}
use Rattle.rules.proofs.Memory.Room.{Room}
use Rattle.rules.proofs.Memory.Pointing.{at-pointed}
use Rattle.rules.proofs.Memory.Owners.{given-set_named, rising-set_named, owned-set_named, owned-set}

occupied-in : (l : List Cell) (i : ℕ) → 1 ≤ occupied (get_or l i Cell.Free)
    → (i < length l) × (occupied (get_or l i Cell.Free) ≡ 1)
occupied-in [] i h = absurd (omega arith)
occupied-in (Cell.Free ∷ l) zero h = absurd (omega arith)
occupied-in (Cell.Holds o v ∷ l) zero h = (omega arith, refl)
occupied-in (c ∷ l) (suc i) h = let r = occupied-in l i h in (omega arith, r.1)

-- a block that covers a cell counts there
pub covered-once : (m : Memory) (k i : ℕ) → covers (recorded_of (block_of m k)) i ≡ true → 1 ≤ coverage (records_of m) i
covered-once m k i e =
    let z = coverage-named (records_of m) k i in
    omega (arith, rw (named-map recorded_of m.blocks k Block.Dead, e) at z)

-- a store into a cell of a live block, whose name is the cell's owner
onward-store : (m : Memory) (i o : ℕ) (v : Value) → covers (recorded_of (block_of m o)) i ≡ true → Invariant m
    → Onward m (set_cell m i (Cell.Holds o v))
onward-store m i o v h y = record {
  invariant = record {
    names = y.names;
    size = length-set m.cells i (Cell.Holds o v) ∙ y.size;
    within = y.within;
    cover = λ j. go j (ℕ_discrete j i);
    rising = y.rising;
    owned = owned-set m.blocks m.cells i (Cell.Holds o v) full.0 h y.owned;
  };
  becomes = λ k. becomes-itself (block_of m k);
}
  where
    full : (i < length m.cells) × (occupied (cell_of m i) ≡ 1)
    full = occupied-in m.cells i (omega (arith, y.cover i, covered-once m o i h))

    go : (j : ℕ) → Dec (j ≡ i)
        → coverage (records_of m) j ≡ occupied (get_or (set m.cells i (Cell.Holds o v)) j Cell.Free)
    go j (no d) = rw (get_or-set_other m.cells i j (Cell.Holds o v) Cell.Free d) (y.cover j)
    go j (yes e) = rw (e, get_or-set_same m.cells i (Cell.Holds o v) Cell.Free full.0) (y.cover i ∙ full.1)

pub onward-cell : (m : Memory) (p : Pointer) (v : Value) → Invariant m → Onward m (changed_memory (store_cell m p v))
onward-cell m p v y =
    at-pointed (λ c. Onward m (changed_memory c)) _ (λ k. stopped k m) m p y (λ i h. onward-store m i _ v h y)
    (λ c. onward-itself y)

-- the number of blocks that cover a cell, after the block of one name was set
coverage-block : (l : List Block) (k : ℕ) (x : Block) (i : ℕ) → 1 ≤ k → k ≤ length l
    → coverage (map recorded_of (set_named l k x)) i + one (covers (recorded_of (named l k Block.Dead)) i)
    ≡ coverage (map recorded_of l) i + one (covers (recorded_of x) i)
coverage-block l k x i h le =
    let r = coverage-set_named (map recorded_of l) k (recorded_of x) i h (omega (arith, length-map l recorded_of)) in
    rw (map-set_named recorded_of l k x, ← (named-map recorded_of l k Block.Dead)) r

pub recorded-for : (u : Use) (first n : ℕ) → recorded_of (block_for u first n) ≡ Recorded.Live first n
recorded-for fixed first n = refl
recorded-for freeable first n = refl

for-given : (u : Use) (first n : ℕ) → is_unused (block_for u first n) ≡ false
for-given fixed first n = refl
for-given freeable first n = refl

pub live-parts : (a n b l : ℕ) → Recorded.Live a n ≡ Recorded.Live b l → (a ≡ b) × (n ≡ l)
live-parts a n b l e = (cc, cc)

free-is : (c : Cell) → is_free c ≡ true → occupied c ≡ 0
free-is Cell.Free e = refl
free-is (Cell.Holds o v) e = absurd (true≢false (sym e))

-- a new block
pub onward-make : (m : Memory) (u : Use) (n k first : ℕ) → Room m n k first → Invariant m
    → Onward m (with_block m u k first n)
onward-make m u n k first r y = record {
  invariant = record {
    names = length-set_named m.blocks k (block_for u first n) ∙ y.names;
    size = length-fill m.cells first n (Cell.Holds k Value.Undefined) ∙ y.size;
    within = λ j a l e. inside-cells j a l (named-set_named m.blocks k j (block_for u first n) Block.Dead) e;
    cover = λ i. go i (covers (Recorded.Live first n) i) refl (covering first n i);
    rising = rising-set_named m.blocks k (block_for u first n) (for-given u first n) r.lower y.rising;
    owned = λ i. owner i (covers (Recorded.Live first n) i) refl (covering first n i);
  };
  becomes = λ j. later j (ℕ_discrete j k);
}
  where
    inside-cells : (j a l : ℕ)
        → (block_of (with_block m u k first n) j ≡ block_for u first n)
        ⊎ (block_of (with_block m u k first n) j ≡ block_of m j)
        → recorded_of (block_of (with_block m u k first n) j) ≡ Recorded.Live a l → a + l ≤ cell_count
    inside-cells j a l (inl e) h =
        omega (arith, r.fits, live-parts first n a l (sym (ap recorded_of e ∙ recorded-for u first n) ∙ h))
    inside-cells j a l (inr e) h = y.within j a l (sym (ap recorded_of e) ∙ h)

    sum : (i : ℕ) → coverage (records_of (with_block m u k first n)) i
        ≡ coverage (records_of m) i + one (covers (Recorded.Live first n) i)
    sum i =
        let z = coverage-block m.blocks k (block_for u first n) i r.from (omega (arith, r.to, y.names)) in
        omega (arith, rw (r.unused, recorded-for u first n) at z)

    go : (i : ℕ) (b : Bool) → covers (Recorded.Live first n) i ≡ b → Covering first n i b
        → coverage (records_of (with_block m u k first n)) i ≡ occupied (cell_of (with_block m u k first n) i)
    go i true e (inside p q) =
        rw (fill-inside m.cells first n (Cell.Holds k Value.Undefined) i Cell.Free
        (omega (arith, y.size, r.fits)) p q)
        (omega (arith, sum i, ap one e, y.cover i, free-is (cell_of m i) (r.clear i p q)))
    go i false e (below p) =
        rw (fill-below m.cells first n (Cell.Holds k Value.Undefined) i Cell.Free p)
        (omega (arith, sum i, ap one e, y.cover i))
    go i false e (above p) =
        rw (fill-above m.cells first n (Cell.Holds k Value.Undefined) i Cell.Free p)
        (omega (arith, sum i, ap one e, y.cover i))

    kept : (i : ℕ) → Owned (set_named m.blocks k (block_for u first n)) i (cell_of m i)
    kept i =
        owned-set_named m.blocks k i (block_for u first n) (cell_of m i) (ap (λ b. covers (recorded_of b) i) r.unused)
        (y.owned i)

    owner : (i : ℕ) (b : Bool) → covers (Recorded.Live first n) i ≡ b → Covering first n i b
        → Owned (set_named m.blocks k (block_for u first n)) i (cell_of (with_block m u k first n) i)
    owner i true e (inside p q) =
        rw (
          fill-inside m.cells first n (Cell.Holds k Value.Undefined) i Cell.Free
              (omega (arith, y.size, r.fits)) p q,
          named-set_named-same m.blocks k (block_for u first n) Block.Dead r.from (omega (arith, r.to, y.names)),
          recorded-for u first n,
        ) e
    owner i false e (below p) =
        rw (fill-below m.cells first n (Cell.Holds k Value.Undefined) i Cell.Free p) (kept i)
    owner i false e (above p) =
        rw (fill-above m.cells first n (Cell.Holds k Value.Undefined) i Cell.Free p) (kept i)

    later : (j : ℕ) → Dec (j ≡ k) → Becomes (block_of m j) (block_of (with_block m u k first n) j)
    later j (yes e) = rw (e, r.unused) tt
    later j (no d) =
        rw (named-set_named-other m.blocks k j (block_for u first n) Block.Dead d) (becomes-itself (block_of m j))

pub make-given : (m : Memory) (u : Use) (n k first : ℕ) → Room m n k first → Invariant m
    → is_unused (block_of (with_block m u k first n) k) ≡ false
make-given m u n k first r y =
    ap is_unused (named-set_named-same m.blocks k (block_for u first n) Block.Dead r.from
    (omega (arith, r.to, y.names)))
    ∙ for-given u first n

pub dead-is-not-live : (a n : ℕ) → Recorded.Dead ≡ Recorded.Live a n → ⊥
dead-is-not-live a n e = let z : ◌≡◌ {A = ℕ} 0 1 = cc in omega arith

pub live-named : (l : List Block) (k a n : ℕ) → recorded_of (named l k Block.Dead) ≡ Recorded.Live a n
    → (1 ≤ k) × (k ≤ length l)
live-named l k a n e = named_in l k Block.Dead (λ h. dead-is-not-live a n (sym (ap recorded_of h) ∙ e))

live-given : (b : Block) (a n : ℕ) → recorded_of b ≡ Recorded.Live a n → is_unused b ≡ false
live-given Block.Unused a n e = let z : ◌≡◌ {A = ℕ} 0 1 = cc in absurd (omega arith)
live-given (Block.Fixed first l) a n e = refl
live-given (Block.Freeable first l) a n e = refl
live-given Block.Dead a n e = refl

-- the end of a live block
without-invariant : (m : Memory) (k first n : ℕ) → recorded_of (block_of m k) ≡ Recorded.Live first n → Invariant m
    → Invariant (without_cells m k (Recorded.Live first n))
without-invariant m k first n e y = record {
  names = length-set_named m.blocks k Block.Dead ∙ y.names;
  size = length-fill m.cells first n Cell.Free ∙ y.size;
  within = λ j a l h. inside-cells j a l (named-set_named m.blocks k j Block.Dead Block.Dead) h;
  cover = λ i. go i (covers (Recorded.Live first n) i) refl (covering first n i);
  rising = rising-set_named m.blocks k Block.Dead refl lower y.rising;
  owned = λ i. owner i (covers (Recorded.Live first n) i) refl (covering first n i);
}
  where
    lower : (j : ℕ) → 1 ≤ j → j < k → is_unused (block_of m j) ≡ false
    lower j a b =
        let r = live-named m.blocks k first n e in
        y.rising j k a (omega arith) (omega (arith, r.1, y.names)) (live-given (block_of m k) first n e)

    kept : (i : ℕ) → covers (Recorded.Live first n) i ≡ false → Owned (set_named m.blocks k Block.Dead) i (cell_of m i)
    kept i h =
        owned-set_named m.blocks k i Block.Dead (cell_of m i) (ap (λ b. covers b i) e ∙ h) (y.owned i)

    owner : (i : ℕ) (b : Bool) → covers (Recorded.Live first n) i ≡ b → Covering first n i b
        → Owned (set_named m.blocks k Block.Dead) i (cell_of (without_cells m k (Recorded.Live first n)) i)
    owner i true g (inside p q) =
        rw (fill-inside m.cells first n Cell.Free i Cell.Free (omega (arith, y.size, y.within k first n e)) p q) tt
    owner i false g (below p) = rw (fill-below m.cells first n Cell.Free i Cell.Free p) (kept i g)
    owner i false g (above p) = rw (fill-above m.cells first n Cell.Free i Cell.Free p) (kept i g)

    inside-cells : (j a l : ℕ)
        → (block_of (without_cells m k (Recorded.Live first n)) j ≡ Block.Dead)
        ⊎ (block_of (without_cells m k (Recorded.Live first n)) j ≡ block_of m j)
        → recorded_of (block_of (without_cells m k (Recorded.Live first n)) j) ≡ Recorded.Live a l → a + l ≤ cell_count
    inside-cells j a l (inl d) h = absurd (dead-is-not-live a l (sym (ap recorded_of d) ∙ h))
    inside-cells j a l (inr d) h = y.within j a l (sym (ap recorded_of d) ∙ h)

    sum : (i : ℕ)
        → coverage (records_of (without_cells m k (Recorded.Live first n))) i + one (covers (Recorded.Live first n) i)
        ≡ coverage (records_of m) i
    sum i =
        let r = live-named m.blocks k first n e in
        let z = coverage-block m.blocks k Block.Dead i r.0 r.1 in
        omega (arith, rw e at z)

    go : (i : ℕ) (b : Bool) → covers (Recorded.Live first n) i ≡ b → Covering first n i b
        → coverage (records_of (without_cells m k (Recorded.Live first n))) i
        ≡ occupied (cell_of (without_cells m k (Recorded.Live first n)) i)
    go i true g (inside p q) =
        rw (fill-inside m.cells first n Cell.Free i Cell.Free (omega (arith, y.size, y.within k first n e)) p q)
        (omega (arith, sum i, ap one g, y.cover i, at_most_one (cell_of m i)))
    go i false g (below p) =
        rw (fill-below m.cells first n Cell.Free i Cell.Free p) (omega (arith, sum i, ap one g, y.cover i))
    go i false g (above p) =
        rw (fill-above m.cells first n Cell.Free i Cell.Free p) (omega (arith, sum i, ap one g, y.cover i))

pub end-invariant : (m : Memory) (k : ℕ) → Invariant m → Invariant (end_block m k)
end-invariant m k y = go (recorded_of (block_of m k)) refl
  where
    go : (x : Recorded) → recorded_of (block_of m k) ≡ x → Invariant (without_cells m k x)
    go Recorded.Unused e = y
    go (Recorded.Live first n) e = without-invariant m k first n e y
    go Recorded.Dead e = y

end-other : (m : Memory) (k j : ℕ) → j ≢ k → block_of (end_block m k) j ≡ block_of m j
end-other m k j d = go (recorded_of (block_of m k))
  where
    go : (x : Recorded) → block_of (without_cells m k x) j ≡ block_of m j
    go Recorded.Unused = refl
    go (Recorded.Live first n) = named-set_named-other m.blocks k j Block.Dead Block.Dead d
    go Recorded.Dead = refl

-- the end of a block leaves every name given
pub end-given : (m : Memory) (k j : ℕ) → is_unused (block_of m j) ≡ false → is_unused (block_of (end_block m k) j) ≡ false
end-given m k j h = go (recorded_of (block_of m k))
  where
    go : (x : Recorded) → is_unused (block_of (without_cells m k x) j) ≡ false
    go Recorded.Unused = h
    go (Recorded.Live first n) = given-set_named m.blocks k Block.Dead refl j h
    go Recorded.Dead = h

-- a freeable block is freed
pub onward-free : (m : Memory) (k first n : ℕ) → block_of m k ≡ Block.Freeable first n → Invariant m
    → Onward m (end_block m k)
onward-free m k first n e y =
    record { invariant = end-invariant m k y; becomes = λ j. go j (ℕ_discrete j k) }
  where
    go : (j : ℕ) → Dec (j ≡ k) → Becomes (block_of m j) (block_of (end_block m k) j)
    go j (yes d) =
        let r = live-named m.blocks k first n (ap recorded_of e) in
        rw (d, e) (inr (named-set_named-same m.blocks k Block.Dead Block.Dead r.0 r.1))
    go j (no d) = rw (end-other m k j d) (becomes-itself (block_of m j))

-- a block ends that was not there at first
pub onward-end : {m m₁ : Memory} (k : ℕ) → block_of m k ≡ Block.Unused → Onward m m₁ → Onward m (end_block m₁ k)
onward-end {m} {m₁} k e p =
    record { invariant = end-invariant m₁ k p.invariant; becomes = λ j. go j (ℕ_discrete j k) }
  where
    go : (j : ℕ) → Dec (j ≡ k) → Becomes (block_of m j) (block_of (end_block m₁ k) j)
    go j (yes d) = rw (d, e) tt
    go j (no d) = rw (end-other m₁ k j d) (p.becomes j)
