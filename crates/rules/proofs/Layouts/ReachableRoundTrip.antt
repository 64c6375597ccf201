-- Every memory that a run of an accepted table can reach fits its layout: the image has the length that 02 §5 gives, it
-- is bytes, bytes 1, 6 and 7 of each cell are zero, and reading it gives the memory back.
use Prim.Native.Nat.{ℕ, zero, suc, ◌/◌, ◌%◌, ◌≤◌, ◌<◌}
use native.Mathlib.Omega.{arith}
use mathlib.Core.Bool.{Bool, true, false, not, ◌||◌}
use mathlib.Core.Path.{◌≡◌, refl, ap}
use mathlib.Core.List.{List}
use lib.Dec.{ltb, eqb}
use lib.ListN.{length, drop}
use borrow.Author.Tests.{ltb-false}
use Rattle.rules.specs.Sizes.{cell_count, input_limit}
use Rattle.rules.specs.Words.{word_at}
use Rattle.rules.specs.Checker.{inputs_fault}
use Rattle.rules.specs.Nodes.{source_program, target_program}
use Rattle.rules.specs.Memory.{Memory, start_memory}
use Rattle.rules.specs.Observation.{Observation}
use Rattle.rules.specs.Flow.{Outcome, ending}
use Rattle.rules.specs.Plain.{start_variables}
use Rattle.rules.specs.Watched.{WatchedState}
use Rattle.rules.specs.Layout.{memory_image, memory_of, observation_image, observation_of, cell_place}
use Rattle.rules.specs.Answers.{numbers_in, inputs_of, plain_outcome, watched_start, watched_outcome}
use Rattle.rules.proofs.Acceptance.Sound.{start_scope, SoundStatement, SoundTarget}
use Rattle.rules.proofs.Runs.Keeping.{AnyNumber}
use Rattle.rules.proofs.Lists.WordLaws.{integer-range, Bytes}
use Rattle.rules.proofs.Runs.Outcomes.{Reaches, outcomes-state}
use Rattle.rules.specs.Fits.{FitsMemory, FitsObservation, InsideMemory, InsideObservation, All, none, also}
use Rattle.rules.proofs.Layouts.FitsLaws.{InRange, start_memory-inside}
use Rattle.rules.proofs.Layouts.KeptPredicates.{inside-invariant, inside-observation-invariant}
use Rattle.rules.proofs.Layouts.KeptPredicates.{start_observation-inside}
use Rattle.rules.proofs.Layouts.LayoutLaws.{length-memory_image, length-observation_image, memory-back}
use Rattle.rules.proofs.Layouts.LayoutLaws.{observation-back, ZeroBytes, image-zeros}
use Rattle.rules.proofs.Layouts.LayoutLaws.{bytes-memory_image, bytes-observation_image}
use Rattle.rules.proofs.Layouts.Reachable.{start_variables-fit, run-keeps, Watchedly, watch-keeps}
use Rattle.rules.proofs.Layouts.Reachable.{start_temporaries-fit}

-- the inputs
length-numbers_in : (n : ℕ) (i : List ℕ) → length (numbers_in n i) ≡ n
length-numbers_in zero i = refl
length-numbers_in (suc n) i = ap suc (length-numbers_in n (drop 8 i))

numbers_in-range : (n : ℕ) (i : List ℕ) → All InRange (numbers_in n i)
numbers_in-range zero i = none
numbers_in-range (suc n) i = also (integer-range (word_at 8 i 0)) (numbers_in-range n (drop 8 i))

inputs-few : (i : List ℕ) → inputs_fault i ≡ false → length (inputs_of i) ≤ input_limit
inputs-few i e =
    let t : ltb input_limit (length i / 8) ≡ false =
    last (not (eqb (length i % 8) 0) || eqb (length i) 0) (ltb input_limit (length i / 8)) e in
    omega (arith, length-numbers_in (length i / 8) i, ltb-false input_limit (length i / 8) t)
  where
    last : (a b : Bool) → a || b ≡ false → b ≡ false
    last true b h = absurd (never h)
      where
        never : true ≡ false → ⊥
        never h = let z : ◌≡◌ {A = ℕ} 0 1 = cc in omega arith
    last false b h = h

pub start-inside : (i : List ℕ) → inputs_fault i ≡ false → InsideMemory (start_memory (inputs_of i))
start-inside i e = start_memory-inside (inputs_of i) (numbers_in-range (length i / 8) i) (inputs-few i e)

-- what an image says of its memory
pub record Shown (m : Memory) : Type 0 where
  -- 02 §5: "49,144 bytes"
  pub image-length : length (memory_image m) ≡ 49144
  pub image-bytes : Bytes (memory_image m)
  pub image-zero-bytes : (i : ℕ) → i < cell_count → ZeroBytes (memory_image m) (cell_place i)
  pub image-back : memory_of (memory_image m) ≡ m

pub record ObservationShown (o : Observation) : Type 0 where
  -- "33,784"
  pub image-length : length (observation_image o) ≡ 33784
  pub image-bytes : Bytes (observation_image o)
  pub image-back : observation_of (observation_image o) ≡ o

pub shown : (m : Memory) → FitsMemory m → Shown m
shown m h = record {
  image-length = length-memory_image m h.block-count h.cell-count;
  image-bytes = bytes-memory_image m h;
  image-zero-bytes = image-zeros m h;
  image-back = memory-back m h;
}

pub observation-shown : (o : Observation) → FitsObservation o → ObservationShown o
observation-shown o h = record {
  image-length = length-observation_image o h.record-count h.mark-count;
  image-bytes = bytes-observation_image o h;
  image-back = observation-back o h;
}

-- ---- the plain run
after_kept : (J : Memory → Type 0) (m : Memory) (f : ℕ) (o : Outcome Memory)
    → Reaches (λ m₁ m₂. J m₂) AnyNumber m f o → J (ending o).state
after_kept J m f o h = (outcomes-state (λ m₁ g. J m₁ × (g ≤ f)) AnyNumber o h).0

pub plain-inside : (t i : List ℕ) (f : ℕ) → SoundStatement (source_program t) start_scope → inputs_fault i ≡ false
    → InsideMemory (ending (plain_outcome t i f)).state
plain-inside t i f h e =
    after_kept InsideMemory (start_memory (inputs_of i)) f (plain_outcome t i f)
    (run-keeps InsideMemory inside-invariant (source_program t) start_scope h start_variables start_variables-fit
    (start_memory (inputs_of i)) f (start-inside i e))

pub plain-round-trip : (t i : List ℕ) (f : ℕ) → SoundStatement (source_program t) start_scope → inputs_fault i ≡ false
    → Shown (ending (plain_outcome t i f)).state
plain-round-trip t i f h e = shown (ending (plain_outcome t i f)).state (plain-inside t i f h e).memory-fits

-- ---- the watched run
both-kept : (J : Memory → Type 0) (O : Observation → Type 0) (x : WatchedState) (f : ℕ) (o : Outcome WatchedState)
    → Reaches (λ y z. Watchedly J O z) AnyNumber x f o → Watchedly J O (ending o).state
both-kept J O x f o h = (outcomes-state (λ y g. Watchedly J O y × (g ≤ f)) AnyNumber o h).0

pub watched-inside : (t i : List ℕ) (f : ℕ) → SoundTarget (target_program t) start_scope → inputs_fault i ≡ false
    → Watchedly InsideMemory InsideObservation (ending (watched_outcome t i f)).state
watched-inside t i f h e =
    let x = watched_start (inputs_of i) in
    both-kept InsideMemory InsideObservation x f (watched_outcome t i f)
    (watch-keeps InsideMemory inside-invariant InsideObservation inside-observation-invariant (target_program t)
    start_scope h start_variables start_variables-fit x f (record {
      memory_kept = start-inside i e;
      observation-kept = start_observation-inside (length (inputs_of i));
      temporaries-fit = start_temporaries-fit;
    }))

pub watched-round-trip : (t i : List ℕ) (f : ℕ) → SoundTarget (target_program t) start_scope → inputs_fault i ≡ false
    → Shown (ending (watched_outcome t i f)).state.memory
    × ObservationShown (ending (watched_outcome t i f)).state.observation
watched-round-trip t i f h e =
    let x = watched-inside t i f h e in (
      shown (ending (watched_outcome t i f)).state.memory x.memory_kept.memory-fits,
      observation-shown (ending (watched_outcome t i f)).state.observation x.observation-kept.observation-fits,
    )
