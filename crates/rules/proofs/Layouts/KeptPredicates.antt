-- What runs keep of memories: a predicate that every change of a memory keeps. To fit, with live blocks inside the
-- cells, is one.
use Prim.Native.Nat.{ℕ, ◌+◌, ◌≤◌}
use native.Mathlib.Omega.{arith}
use mathlib.Core.Bool.{false}
use mathlib.Core.Path.{◌≡◌}
use lib.ListN.{length-replicate}
use Rattle.std.specs.Prelude.{Some}
use Rattle.rules.specs.Types.{Recorded, Cell}
use Rattle.rules.specs.Sizes.{name_count, cell_count}
use Rattle.rules.specs.Memory.{Memory, set_cell, cell_of, is_free, next_name, free_run, Use, with_block, make_block}
use Rattle.rules.specs.Memory.{end_block}
use Rattle.rules.specs.Observation.{Observation, mark_run, empty_observation, start_observation}
use Rattle.rules.proofs.Runs.Keeping.{AnyNumber, AnyValue, AnyPlace, AnyState, MadeKeeps, make_at-keeps}
use Rattle.rules.proofs.Runs.Calls.{CallsKeep}
use Rattle.rules.proofs.Memory.ObservationKept.{start_observation-keeps}
use Rattle.rules.proofs.Lists.Lists.{all_replicate}
use Rattle.rules.specs.Fits.{FitsName, FitsCell, FitsMemory, FitsObservation, InsideMemory}
use Rattle.rules.specs.Fits.{InsideObservation}
use Rattle.rules.proofs.Lists.RunLaws.{run-bound}
use Rattle.rules.proofs.Layouts.FitsLaws.{next_name-fits, set_cell-inside}
use Rattle.rules.proofs.Layouts.FitsLaws.{with_block-inside, end_block-inside}
use Rattle.rules.proofs.Layouts.FitsLaws.{with_marks-inside, marked-fits}

pub record MemoryInvariant (J : Memory → Type 0) : Type 0 where
  pub fitting : (m : Memory) → J m → FitsMemory m
  pub storing : (m : Memory) (i : ℕ) (c : Cell) → J m → FitsCell c → J (set_cell m i c)
  pub making : (m : Memory) (u : Use) (k first n : ℕ) → J m → FitsName k → first + n ≤ cell_count
      → J (with_block m u k first n)
  pub ending : (m : Memory) (k : ℕ) → J m → J (end_block m k)

pub record ObservationInvariant (O : Observation → Type 0) : Type 0 where
  pub fitting : (o : Observation) → O o → FitsObservation o
  pub calls : CallsKeep O

pub inside-invariant : MemoryInvariant InsideMemory
inside-invariant = record {
  fitting = λ m h. h.memory-fits;
  storing = set_cell-inside;
  making = with_block-inside;
  ending = end_block-inside;
}

mark_run-places : (o : Observation) (n first : ℕ) → mark_run o n ≡ Some first → first + n ≤ cell_count
mark_run-places o n first e = run-bound _ n first e

pub inside-observation-invariant : ObservationInvariant InsideObservation
inside-observation-invariant = record {
  fitting = λ o h. h.observation-fits;
  calls = record {
    storing = λ o k first n h d e.
        let r = mark_run-places o n first e in
        with_marks-inside o k (Recorded.Live first n) first n h (omega arith, omega arith) r;
    deleting = λ o k first n h d. with_marks-inside o k Recorded.Dead first n h tt tt;
    marking = λ o p i h d. record {
      observation-fits = marked-fits o i h.observation-fits;
      records-inside = h.records-inside;
    };
  };
}

-- a new block has a name, and the memory with it is as it should be
abbrev pub MadeWith : (Memory → Type 0) → ℕ → Memory → Type 0
MadeWith J k m = FitsName k × J m

pub make_block-keeps : (J : Memory → Type 0) → MemoryInvariant J → (m : Memory) (u : Use) (n : ℕ) → J m
    → MadeKeeps (MadeWith J) AnyNumber (make_block m u n)
make_block-keeps J v m u n h =
    make_at-keeps AnyState AnyNumber AnyNumber (λ c x. tt) (λ c x. tt) AnyValue AnyPlace (MadeWith J) m u n
    (next_name m) (free_run m n) (λ k first a b.
    let l : FitsName k = next_name-fits m k a in
    (l, v.making m u k first n h l (run-bound (λ i. is_free (cell_of m i)) n first b)))

pub empty-inside : InsideObservation empty_observation
empty-inside = record {
  observation-fits = record {
    record-count = length-replicate name_count Recorded.Unused;
    mark-count = length-replicate cell_count false;
    records-fit = all_replicate name_count Recorded.Unused tt;
  };
  records-inside = all_replicate name_count Recorded.Unused tt;
}

pub start_observation-inside : (n : ℕ) → InsideObservation (start_observation n)
start_observation-inside = start_observation-keeps InsideObservation inside-observation-invariant.calls empty-inside

pub start_observation-fits : (n : ℕ) → FitsObservation (start_observation n)
start_observation-fits n = (start_observation-inside n).observation-fits
