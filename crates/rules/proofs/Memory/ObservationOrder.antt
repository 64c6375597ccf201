-- What holds of the observation memory at every step, and that its calls keep it: document 01's sentences about its
-- block records and marks.
use Prim.Native.Nat.{ℕ, zero, suc, ◌+◌, ◌≤◌, ◌<◌}
use native.Mathlib.Omega.{arith}
use mathlib.Core.Path.{◌≡◌, refl, sym, ap, ◌∙◌, subst}
use mathlib.Core.Logic.{◌≢◌, ◌⊎◌, inl, inr}
use mathlib.Core.Bool.{Bool, true, false, not, cond, true≢false}
use mathlib.Core.List.{List}
use lib.Dec.{ltb}
use lib.IntN.{ℤ, pos, negsuc}
use lib.ListN.{length, set, replicate, length-set, length-replicate}
use lib.Seq.{get_or-set_other}
use borrow.Author.Tests.{ltb-true}
use Rattle.std.specs.Prelude.{Err, None, Ok, Some}
use Rattle.rules.specs.Types.{Pointer, Value, Located, Search, Recorded, Miss}
use Rattle.rules.specs.Sizes.{name_count, cell_count}
use Rattle.rules.specs.Memory.{located_in, lowest_run, one, fill, set_named}
use Rattle.rules.specs.Observation.{Observation, record_of, covers, covered, mark_run, noted, with_marks, is_marked}
use Rattle.rules.specs.Observation.{store_at, store_sized, store_block, locate_mark, empty_observation}
use Rattle.rules.proofs.Lists.SearchLaws.{Outcome, lowest-outcome}
use Rattle.rules.proofs.Lists.RunLaws.{run-bound}
use Rattle.rules.proofs.Lists.FillLaws.{fill-same}
use Rattle.rules.proofs.Lists.Lists.{all_get_d, all_named, all_replicate, length-set_named, length-fill}
use Rattle.rules.proofs.Memory.MemoryLaws.{named_in, named-set_named-same, named-set_named, fill-inside}
use Rattle.rules.proofs.Memory.MemoryLaws.{fill-below}
use Rattle.rules.proofs.Memory.MemoryLaws.{fill-above, all_free-at, Covering, inside, below, above, covering}
use Rattle.rules.proofs.Memory.MemoryLaws.{covers-inside, coverage, coverage-set_named, coverage-named, separate}
use Rattle.rules.proofs.Memory.MemoryLaws.{Covered}
use Rattle.rules.proofs.Memory.MemoryLaws.{some, none, covered-is}
use Rattle.rules.specs.Fits.{InsideRecorded, All}
use Rattle.rules.proofs.Memory.BlockChanges.{live-parts, dead-is-not-live}
use Rattle.rules.proofs.Runs.Keeping.{AnyNumber}
use Rattle.rules.proofs.Runs.TargetRuns.{NotedKeeps}
use Rattle.rules.proofs.Runs.Calls.{CallsKeep}

pub record OrderlyObservation (o : Observation) : Type 0 where
  -- 02 §5: "Each memory has 4,095 block records"
  pub record-count : length o.blocks ≡ name_count
  -- "then 1,024 marks"
  pub mark-count : length o.marks ≡ cell_count
  -- a live block's places are marks
  pub within : (k first n : ℕ) → record_of o k ≡ Recorded.Live first n → first + n ≤ cell_count
  -- no mark lies in two live blocks
  pub once : (i : ℕ) → coverage o.blocks i ≤ 1
  -- "marks outside live blocks are 0"
  pub outside : (i : ℕ) → covered o.blocks i ≡ false → is_marked o i ≡ false

-- the live blocks of two names share no mark
pub marks-apart : (o : Observation) → OrderlyObservation o → (j k first n first₁ n₁ : ℕ) → j ≢ k
    → record_of o j ≡ Recorded.Live first n → record_of o k ≡ Recorded.Live first₁ n₁
    → (i : ℕ) → first ≤ i → i < first + n → first₁ ≤ i → i < first₁ + n₁ → ⊥
marks-apart o y = separate o.blocks y.once

-- a mark that is set lies in a live block
pub marked-inside : (o : Observation) → OrderlyObservation o → (i : ℕ) → is_marked o i ≡ true
    → covered o.blocks i ≡ true
marked-inside o y i e = go (covered o.blocks i) refl
  where
    go : (b : Bool) → covered o.blocks i ≡ b → covered o.blocks i ≡ true
    go true d = d
    go false d = absurd (true≢false (sym e ∙ y.outside i d))

-- ---- places that no live block covers
pub uncovered : (l : List Recorded) (i : ℕ) → coverage l i ≡ 0 → covered l i ≡ false
uncovered l i e = go (covered-is l i)
  where
    go : {b : Bool} → Covered l i b → b ≡ false
    go (some h) = absurd (omega arith)
    go (none h) = refl

pub coverage-none : (l : List Recorded) (i : ℕ) → covered l i ≡ false → coverage l i ≡ 0
coverage-none l i e = go (covered l i) e (covered-is l i)
  where
    go : (b : Bool) → b ≡ false → Covered l i b → coverage l i ≡ 0
    go true d c = absurd (true≢false d)
    go false d (none h) = h

not-true : (b : Bool) → not b ≡ true → b ≡ false
not-true true e = absurd (true≢false (sym e))
not-true false e = refl

-- no live block covers a mark of the run that is found
mark_run-free : (o : Observation) (n first i : ℕ) → mark_run o n ≡ Some first → first ≤ i → i < first + n
    → coverage o.blocks i ≡ 0
unfolding lowest_run
mark_run-free o n first i e p q =
    let h = subst (Outcome _ 0 _) e (lowest-outcome _ 0 _) in
    coverage-none o.blocks i (not-true (covered o.blocks i) (all_free-at _ first n i h.2 p q))

-- its marks are 0 already
pub mark_run-clear : (o : Observation) (n first : ℕ) → OrderlyObservation o → mark_run o n ≡ Some first
    → fill o.marks first n false ≡ o.marks
mark_run-clear o n first y e =
    fill-same false o.marks first n false
    (λ i a b. y.outside i (uncovered o.blocks i (mark_run-free o n first i e a b)))

pub dead-is-not-unused : Recorded.Dead ≡ Recorded.Unused → ⊥
dead-is-not-unused e = let z : ◌≡◌ {A = ℕ} 0 1 = cc in omega arith

-- ---- a block is stored or deleted: the marks from first on are cleared, the others are covered as before
with-marks : (o : Observation) (k : ℕ) (b : Recorded) (first n : ℕ) → OrderlyObservation o → first + n ≤ cell_count
    → ((a l : ℕ) → b ≡ Recorded.Live a l → a + l ≤ cell_count)
    → ((i : ℕ) → coverage (set_named o.blocks k b) i ≤ 1)
    → ((i : ℕ) → covers (Recorded.Live first n) i ≡ false
    → coverage (set_named o.blocks k b) i ≡ coverage o.blocks i)
    → OrderlyObservation (with_marks o k b first n)
with-marks o k b first n y places fits once rest = record {
  record-count = length-set_named o.blocks k b ∙ y.record-count;
  mark-count = length-fill o.marks _ _ _ ∙ y.mark-count;
  within = λ j a l e. inside-marks j a l (named-set_named o.blocks k j b Recorded.Dead) e;
  once = once;
  outside = λ i e. go i (coverage-none (set_named o.blocks k b) i e) (covers (Recorded.Live first n) i) refl
      (covering first n i);
}
  where
    inside-marks : (j a l : ℕ)
        → (record_of (with_marks o k b first n) j ≡ b) ⊎ (record_of (with_marks o k b first n) j ≡ record_of o j)
        → record_of (with_marks o k b first n) j ≡ Recorded.Live a l → a + l ≤ cell_count
    inside-marks j a l (inl d) e = fits a l (sym d ∙ e)
    inside-marks j a l (inr d) e = y.within j a l (sym d ∙ e)

    free-before : (i : ℕ) → coverage (set_named o.blocks k b) i ≡ 0 → covers (Recorded.Live first n) i ≡ false
        → is_marked o i ≡ false
    free-before i c e = y.outside i (uncovered o.blocks i (sym (rest i e) ∙ c))

    go : (i : ℕ) → coverage (set_named o.blocks k b) i ≡ 0 → (t : Bool) → covers (Recorded.Live first n) i ≡ t
        → Covering first n i t → is_marked (with_marks o k b first n) i ≡ false
    go i c true e (inside p q) =
        fill-inside o.marks first n false i false (omega (arith, y.mark-count)) p q
    go i c false e (below p) = fill-below o.marks first n false i false p ∙ free-before i c e
    go i c false e (above p) = fill-above o.marks first n false i false p ∙ free-before i c e

store-orderly : (o : Observation) (k first n : ℕ) → OrderlyObservation o → record_of o k ≡ Recorded.Unused
    → mark_run o n ≡ Some first → OrderlyObservation (with_marks o k (Recorded.Live first n) first n)
store-orderly o k first n y d e =
    with-marks o k (Recorded.Live first n) first n y places
    (λ a l h. let r = live-parts first n a l h in omega (arith, places, r.0, r.1))
    (λ i. go i (covers (Recorded.Live first n) i) refl (covering first n i))
    (λ i h. omega (arith, sum i, ap one h))
  where
    places : first + n ≤ cell_count
    places = run-bound _ n first e

    sum : (i : ℕ) → coverage (set_named o.blocks k (Recorded.Live first n)) i
        ≡ coverage o.blocks i + one (covers (Recorded.Live first n) i)
    sum i =
        let r = named_in o.blocks k Recorded.Dead (λ h. dead-is-not-unused (sym h ∙ d)) in
        let z = rw d at (coverage-set_named o.blocks k (Recorded.Live first n) i r.0 r.1) in
        omega (arith, z)

    go : (i : ℕ) (t : Bool) → covers (Recorded.Live first n) i ≡ t → Covering first n i t
        → coverage (set_named o.blocks k (Recorded.Live first n)) i ≤ 1
    go i true h (inside p q) = omega (arith, sum i, ap one h, mark_run-free o n first i e p q)
    go i false h c = omega (arith, sum i, ap one h, y.once i)

delete-orderly : (o : Observation) (k first n : ℕ) → OrderlyObservation o → record_of o k ≡ Recorded.Live first n
    → OrderlyObservation (with_marks o k Recorded.Dead first n)
delete-orderly o k first n y d =
    with-marks o k Recorded.Dead first n y (y.within k first n d) (λ a l h. absurd (dead-is-not-live a l h))
    (λ i. omega (arith, sum i, y.once i)) (λ i h. omega (arith, sum i, ap one h))
  where
    sum : (i : ℕ) → coverage (set_named o.blocks k Recorded.Dead) i + one (covers (Recorded.Live first n) i)
        ≡ coverage o.blocks i
    sum i =
        let r = named_in o.blocks k Recorded.Dead (λ h. dead-is-not-live first n (sym h ∙ d)) in
        let z = rw d at (coverage-set_named o.blocks k Recorded.Dead i r.0 r.1) in
        omega (arith, z)

-- what a store of a block of z marks under name k has done where it is not refused
pub record Stored (o : Observation) (k : ℕ) (z : ℤ) (o₁ : Observation) : Type 0 where
  pub first : ℕ
  pub size : ℕ
  pub asked : z ≡ pos size
  -- "placed by the same lowest-run rule"
  pub placed : mark_run o size ≡ Some first
  pub live : record_of o₁ k ≡ Recorded.Live first size
  -- "a stored block's marks start at 0"
  pub clear : (i : ℕ) → first ≤ i → i < first + size → is_marked o₁ i ≡ false

pub stored : (o : Observation) (p : Pointer) (z : ℤ) (o₁ : Observation) → OrderlyObservation o
    → store_block o (Value.Pointer p) (Value.Integer z) ≡ noted o₁ → Stored o p.name z o₁
stored o p z o₁ y e = subst (NotedKeeps (Stored o p.name z) AnyNumber) e (sized p.name p.offset z)
  where
    found : (k n : ℕ) (b : Recorded) (r : Search) → record_of o k ≡ b → mark_run o n ≡ r
        → NotedKeeps (Stored o k (pos n)) AnyNumber (store_at o k n b r)
    found k n Recorded.Unused (Some first) d g =
        let r = named_in o.blocks k Recorded.Dead (λ h. dead-is-not-unused (sym h ∙ d)) in
        let places = run-bound _ n first g in
        record {
          first = first;
          size = n;
          asked = refl;
          placed = g;
          live = named-set_named-same o.blocks k (Recorded.Live first n) Recorded.Dead r.0 r.1;
          clear = λ i a b. fill-inside o.marks first n false i false (omega (arith, places, y.mark-count)) a b;
        }
    found k n Recorded.Unused None d g = tt
    found k n (Recorded.Live first l) r d g = tt
    found k n Recorded.Dead r d g = tt

    sized : (k : ℕ) (x z : ℤ) → NotedKeeps (Stored o k z) AnyNumber (store_sized o k x z)
    sized k (pos zero) (pos (suc n)) = found k (suc n) (record_of o k) (mark_run o (suc n)) refl refl
    sized k (pos zero) (pos zero) = tt
    sized k (pos zero) (negsuc n) = tt
    sized k (pos (suc x)) z = tt
    sized k (negsuc x) z = tt

-- ---- a mark is set: where a pointer leads lies in the block that it names
abbrev LeadsInto : Recorded → Located → Type 0
LeadsInto b (Ok i) = one (covers b i) ≡ 1
LeadsInto b (Err Miss.Dead) = Unit {0}
LeadsInto b (Err Miss.Outside) = Unit {0}

leads-into : (b : Recorded) (z : ℤ) → LeadsInto b (located_in b z)
leads-into Recorded.Unused z = tt
leads-into Recorded.Dead z = tt
leads-into (Recorded.Live first n) (negsuc x) = tt
leads-into (Recorded.Live first n) (pos x) = pick (ltb x n) refl
  where
    pick : (t : Bool) → ltb x n ≡ t
        → LeadsInto (Recorded.Live first n) (cond t (Ok (first + x)) (Err Miss.Outside))
    pick true e = ap one (covers-inside first n (first + x) (omega arith) (omega (arith, ltb-true x n e)))
    pick false e = tt

mark-orderly : (o : Observation) (p : Pointer) (i : ℕ) → OrderlyObservation o → locate_mark o p ≡ Ok i
    → OrderlyObservation (record { blocks = o.blocks; marks = set o.marks i true })
mark-orderly o p i y e = record {
  record-count = y.record-count;
  mark-count = length-set o.marks i true ∙ y.mark-count;
  within = y.within;
  once = y.once;
  outside = λ j d. get_or-set_other o.marks i j true false (λ h. other j d h) ∙ y.outside j d;
}
  where
    other : (j : ℕ) → covered o.blocks j ≡ false → j ≡ i → ⊥
    other j d h =
        let in_block : one (covers (record_of o p.name) i) ≡ 1 =
        subst (LeadsInto (record_of o p.name)) e (leads-into (record_of o p.name) p.offset) in
        let z : coverage o.blocks i ≡ 0 = rw h at (coverage-none o.blocks j d) in
        omega (arith, in_block, z, coverage-named o.blocks p.name i)

-- at the start nothing is recorded and no mark is set
pub none-cover : (n i : ℕ) → coverage (replicate n Recorded.Unused) i ≡ 0
none-cover zero i = refl
none-cover (suc n) i = omega (arith, none-cover n i)

pub empty-orderly : OrderlyObservation empty_observation
empty-orderly = record {
  record-count = length-replicate name_count Recorded.Unused;
  mark-count = length-replicate cell_count false;
  within = λ k first n e.
      subst InsideRecorded e (all_named {P = InsideRecorded} unused k Recorded.Dead tt);
  once = λ i. omega (arith, none-cover name_count i);
  outside = λ i e. all_get_d {P = λ b. b ≡ false} (all_replicate cell_count false refl) i false refl;
}
  where
    unused : All InsideRecorded (replicate name_count Recorded.Unused)
    unused = all_replicate name_count Recorded.Unused tt

pub orderly-calls : CallsKeep OrderlyObservation
orderly-calls = record { storing = store-orderly; deleting = delete-orderly; marking = mark-orderly }
