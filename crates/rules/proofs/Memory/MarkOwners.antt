-- Which live block has each mark, as a watched run keeps it beside the observation memory: what that says, and that it
-- stays right where a block is stored or deleted.
use Prim.Native.Nat.{ℕ, zero, suc, ◌+◌, ◌≤◌, ◌<◌}
use native.Mathlib.Omega.{arith}
use mathlib.Core.Path.{◌≡◌, refl, sym, ap, ◌∙◌}
use mathlib.Core.Bool.{Bool, true, false, not, true≢false}
use mathlib.Core.Logic.{◌≢◌}
use mathlib.Core.List.{List}
use lib.Dec.{eqb}
use borrow.Author.Tests.{ne_eqb}
use lib.ListN.{length, get_or, replicate}
use Rattle.std.specs.Prelude.{Err, Ok, Some}
use Rattle.rules.specs.Types.{Value, Evaluated, Recorded}
use Rattle.rules.specs.Sizes.{name_count, cell_count}
use Rattle.rules.specs.Memory.{named, lowest_run, fill, set_named}
use Rattle.rules.specs.Observation.{Observation, record_of, covers, covered, mark_run, with_marks, empty_observation}
use Rattle.rules.specs.Observation.{initialise, kept, pointer_to, mark_all}
use Rattle.rules.specs.Watched.{called_on}
use Rattle.rules.specs.declared.MarkOwners.{MarkOwners}
use Rattle.rules.proofs.Lists.Rows.{get_d-zero}
use Rattle.rules.proofs.Lists.RunLaws.{NoneBelow, lowest_taken, lowest_given, none-taken, none-given, taken-within}
use Rattle.rules.proofs.Lists.RunLaws.{given-within, Held, run-same, run-bound}
use Rattle.rules.proofs.Memory.MemoryLaws.{named_in, named-set_named-same, named-set_named-other, fill-inside}
use Rattle.rules.proofs.Memory.MemoryLaws.{fill-below, fill-above, Covering, inside, below, above, covering}
use Rattle.rules.proofs.Memory.MemoryLaws.{covers-inside, coverage, coverage-set_named, coverage-named}
use Rattle.rules.proofs.Memory.MemoryLaws.{Covered, some, none, covered-is}
use Rattle.rules.proofs.Memory.BlockEnds.{held-to-end}
use Rattle.rules.proofs.Memory.ObservationOrder.{OrderlyObservation, orderly-calls, empty-orderly, uncovered}
use Rattle.rules.proofs.Memory.ObservationOrder.{coverage-none, dead-is-not-unused, none-cover}
use Rattle.rules.proofs.Memory.BlockChanges.{dead-is-not-live}
use Rattle.rules.proofs.Memory.ObservationKept.{kept-keeps}
use Rattle.rules.proofs.Runs.Keeping.{AnyNumber}
use Rattle.rules.proofs.Runs.TargetRuns.{NotedKeeps}
use Rattle.rules.proofs.Runs.Calls.{initialise-keeps}

-- mark i lies in no live block where its owner is 0, and in the live block of its owner's name where it is not
abbrev pub OwnedBy : List Recorded → ℕ → ℕ → Type 0
OwnedBy l i zero = covered l i ≡ false
OwnedBy l i (suc k) = covers (named l (suc k) Recorded.Dead) i ≡ true

pub record MarksOwned (o : Observation) (owners : MarkOwners) : Type 0 where
  pub orderly : OrderlyObservation o
  pub owned : (i : ℕ) → i < cell_count → OwnedBy o.blocks i (get_or owners.names i 0)
  pub lowest : NoneBelow (λ i. eqb (get_or owners.names i 0) 0) owners.lowest
  pub within : owners.lowest ≤ cell_count

-- once block k has taken n marks from first on, and once they are given back
abbrev pub owners_taken : MarkOwners → ℕ → ℕ → ℕ → MarkOwners
owners_taken owners k first n =
    record { names = fill owners.names first n k; lowest = lowest_taken first n owners.lowest }

abbrev pub owners_given : MarkOwners → ℕ → ℕ → MarkOwners
owners_given owners first n =
    record { names = fill owners.names first n 0; lowest = lowest_given first owners.lowest }

pub owned-is : {o o₁ : Observation} {w w₁ : MarkOwners} → o₁ ≡ o → w₁ ≡ w → MarksOwned o w → MarksOwned o₁ w₁
owned-is p q h = rw (p, q) h

-- ---- the search: a mark is free where it has no owner, and one that has is left by the end of its owner's block
unowned : (l : List Recorded) (i k : ℕ) → OwnedBy l i k → eqb k 0 ≡ not (covered l i)
unowned l i zero h = sym (ap not h)
unowned l i (suc k) h = ne_eqb (suc k) 0 (omega arith) ∙ go (covered-is l i)
  where
    go : {b : Bool} → Covered l i b → false ≡ not b
    go (some c) = refl
    go (none c) =
        let z = rw h at (coverage-named l (suc k) i) in
        absurd (omega (arith, c, z))

module _ {o : Observation} {owners : MarkOwners} (h : MarksOwned o owners) where
  pub owners-run : (n : ℕ) → lowest_run (λ i. eqb (get_or owners.names i 0) 0) n ≡ mark_run o n
  owners-run n =
      run-same (λ i. eqb (get_or owners.names i 0) 0) (λ i. not (covered o.blocks i)) n
      (λ j b. unowned o.blocks j (get_or owners.names j 0) (h.owned j b))

  -- a mark's owner, where it has one, has a live block with the mark in it
  pub owner-covers : (i : ℕ) → i < cell_count → get_or owners.names i 0 ≢ 0
      → covers (record_of o (get_or owners.names i 0)) i ≡ true
  owner-covers i b f = go (get_or owners.names i 0) f (h.owned i b)
    where
      go : (k : ℕ) → k ≢ 0 → OwnedBy o.blocks i k → covers (record_of o k) i ≡ true
      go zero f w = absurd (f refl)
      go (suc k) f w = w

  pub owner-held : (k i first n : ℕ) → record_of o k ≡ Recorded.Live first n → covers (Recorded.Live first n) i ≡ true
      → Held (λ j. eqb (get_or owners.names j 0) 0) i (first + n)
  owner-held k i first n e c =
      held-to-end o.blocks _ apart k i first n e (h.orderly.within k first n e) c
    where
      apart : (j : ℕ) → j < cell_count → 1 ≤ coverage o.blocks j → eqb (get_or owners.names j 0) 0 ≡ false
      apart j b a = unowned o.blocks j (get_or owners.names j 0) (h.owned j b) ∙ go (covered-is o.blocks j)
        where
          go : {t : Bool} → Covered o.blocks j t → not t ≡ false
          go (some c) = refl
          go (none c) = absurd (omega arith)

-- ---- a block's record is set
module _ (l : List Recorded) (k : ℕ) (b : Recorded) (i : ℕ) (from : 1 ≤ k) (to : k ≤ length l) where
  covers-set : covers b i ≡ true → OwnedBy (set_named l k b) i k
  covers-set e = go k from (ap (λ x. covers x i) (named-set_named-same l k b Recorded.Dead from to) ∙ e)
    where
      go : (j : ℕ) → 1 ≤ j → covers (named (set_named l k b) j Recorded.Dead) i ≡ true → OwnedBy (set_named l k b) i j
      go zero a w = absurd (omega arith)
      go (suc j) a w = w

  -- a mark that the block has neither before nor after keeps its owner
  owned-apart : covers (named l k Recorded.Dead) i ≡ false → covers b i ≡ false → (x : ℕ) → OwnedBy l i x
      → OwnedBy (set_named l k b) i x
  owned-apart e d zero w =
      let z = rw (e, d) at (coverage-set_named l k b i from to) in
      uncovered (set_named l k b) i (omega (arith, z, coverage-none l i w))
  owned-apart e d (suc j) w =
      ap (λ x. covers x i) (named-set_named-other l k (suc j) b Recorded.Dead other) ∙ w
    where
      other : suc j ≢ k
      other q = true≢false (sym w ∙ ap (λ x. covers (named l x Recorded.Dead) i) q ∙ e)

-- ---- the calls
module _ {o : Observation} {owners : MarkOwners} (h : MarksOwned o owners) (k first n x : ℕ)
    (room : first + n ≤ length owners.names) where
  -- n marks from first on get owner x
  abbrev names₁ : List ℕ
  names₁ = fill owners.names first n x

  filled-inside : (i : ℕ) → first ≤ i → i < first + n → get_or names₁ i 0 ≡ x
  filled-inside i p q = fill-inside owners.names first n x i 0 (omega arith) p q

  filled-below : (i : ℕ) → i < first → get_or names₁ i 0 ≡ get_or owners.names i 0
  filled-below i p = fill-below owners.names first n x i 0 p

  filled-above : (i : ℕ) → first + n ≤ i → get_or names₁ i 0 ≡ get_or owners.names i 0
  filled-above i p = fill-above owners.names first n x i 0 p

  -- the others keep their owners
  owned-filled : (b : Recorded) → ((i : ℕ) → first ≤ i → i < first + n → OwnedBy (set_named o.blocks k b) i x)
      → ((i : ℕ) → covers (Recorded.Live first n) i ≡ false → OwnedBy o.blocks i (get_or owners.names i 0)
      → OwnedBy (set_named o.blocks k b) i (get_or owners.names i 0))
      → (i : ℕ) → i < cell_count → OwnedBy (set_named o.blocks k b) i (get_or names₁ i 0)
  owned-filled b new old i c = go (covers (Recorded.Live first n) i) refl (covering first n i)
    where
      go : (t : Bool) → covers (Recorded.Live first n) i ≡ t → Covering first n i t
          → OwnedBy (set_named o.blocks k b) i (get_or names₁ i 0)
      go true e (inside p q) = rw (filled-inside i p q) (new i p q)
      go false e (below p) = rw (filled-below i p) (old i e (h.owned i c))
      go false e (above p) = rw (filled-above i p) (old i e (h.owned i c))

module _ {o : Observation} {owners : MarkOwners} (h : MarksOwned o owners) (k first n : ℕ)
    (size : length owners.names ≡ cell_count) where
  pub store-owned : record_of o k ≡ Recorded.Unused → mark_run o n ≡ Some first
      → MarksOwned (with_marks o k (Recorded.Live first n) first n) (owners_taken owners k first n)
  store-owned d e = record {
    orderly = orderly-calls.storing o k first n h.orderly d e;
    owned = owned-filled h k first n k room (Recorded.Live first n)
        (λ i p q. covers-set o.blocks k (Recorded.Live first n) i r.0 r.1 (covers-inside first n i p q))
        (λ i c w. owned-apart o.blocks k (Recorded.Live first n) i r.0 r.1 (ap (λ x. covers x i) d) c
        (get_or owners.names i 0) w);
    lowest = none-taken _ _ first owners.lowest h.lowest n
        (λ j p q. ap (λ (x : ℕ). eqb x 0) (filled-inside h k first n k room j p q) ∙ ne_eqb k 0 known)
        (λ j p. ap (λ (x : ℕ). eqb x 0) (filled-below h k first n k room j p))
        (λ j p q. ap (λ (x : ℕ). eqb x 0) (filled-above h k first n k room j p));
    within = taken-within first n owners.lowest fits h.within;
  }
    where
      r : (1 ≤ k) × (k ≤ length o.blocks)
      r = named_in o.blocks k Recorded.Dead (λ q. dead-is-not-unused (sym q ∙ d))

      known : k ≢ 0
      known q = omega (arith, r.0)

      fits : first + n ≤ cell_count
      fits = run-bound _ n first e

      room : first + n ≤ length owners.names
      room = omega (arith, fits)

  pub delete-owned : record_of o k ≡ Recorded.Live first n
      → MarksOwned (with_marks o k Recorded.Dead first n) (owners_given owners first n)
  delete-owned d = record {
    orderly = orderly-calls.deleting o k first n h.orderly d;
    owned = owned-filled h k first n 0 room Recorded.Dead
        (λ i p q. uncovered (set_named o.blocks k Recorded.Dead) i (gone i p q))
        (λ i c w. owned-apart o.blocks k Recorded.Dead i r.0 r.1 (ap (λ x. covers x i) d ∙ c) refl
        (get_or owners.names i 0) w);
    lowest = none-given _ _ first owners.lowest h.lowest
        (λ j p. ap (λ (x : ℕ). eqb x 0) (filled-below h k first n 0 room j p));
    within = given-within first owners.lowest h.within;
  }
    where
      r : (1 ≤ k) × (k ≤ length o.blocks)
      r = named_in o.blocks k Recorded.Dead (λ q. dead-is-not-live first n (sym q ∙ d))

      room : first + n ≤ length owners.names
      room = omega (arith, h.orderly.within k first n d)

      gone : (i : ℕ) → first ≤ i → i < first + n → coverage (set_named o.blocks k Recorded.Dead) i ≡ 0
      gone i p q =
          let z = rw (d, covers-inside first n i p q)
          at (coverage-set_named o.blocks k Recorded.Dead i r.0 r.1) in
          omega (arith, z, h.orderly.once i)

-- a mark that is set has the owner that it had
module _ {owners : MarkOwners} where
  initialise-noted : {o : Observation} → MarksOwned o owners → (v : Value)
      → NotedKeeps (λ x. MarksOwned x owners) AnyNumber (initialise o v)
  initialise-noted {o} h v =
      initialise-keeps (λ x. MarksOwned x owners) AnyNumber tt tt o v (λ p i e. record {
        orderly = orderly-calls.marking o p i h.orderly e;
        owned = h.owned;
        lowest = h.lowest;
        within = h.within;
      })

  pub initialise-owned : {o : Observation} → MarksOwned o owners → (e : Evaluated)
      → MarksOwned (kept o (called_on e (initialise o))) owners
  initialise-owned {o} h (Ok v) =
      kept-keeps (λ x. MarksOwned x owners) o (initialise o v) h (initialise-noted h v)
  initialise-owned h (Err c) = h

  pub mark_all-owned : {o : Observation} → MarksOwned o owners → (k n : ℕ) → MarksOwned (mark_all o k n) owners
  unfolding mark_all
  mark_all-owned h k zero = h
  mark_all-owned {o} h k (suc n) =
      let f : MarksOwned (mark_all o k n) owners = mark_all-owned h k n in
      initialise-owned f (Ok (pointer_to k n))

-- at the start no mark has an owner
pub empty-owned : MarksOwned empty_observation (record { names = replicate cell_count 0; lowest = 0 })
empty-owned = record {
  orderly = empty-orderly;
  owned = λ i b. rw (get_d-zero cell_count i) (unused i);
  lowest = λ j b. absurd (omega arith);
  within = omega arith;
}
  where
    unused : (i : ℕ) → covered (replicate name_count Recorded.Unused) i ≡ false
    unused i = uncovered _ i (none-cover name_count i)
