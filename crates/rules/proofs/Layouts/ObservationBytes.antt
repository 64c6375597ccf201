-- What document 01 says of the observation memory holds of the bytes that every watched run leaves, of a hand-made
-- target table too, whatever its ending.
use Prim.Native.Nat.{ℕ, suc, ◌+◌, ◌≤◌, ◌<◌}
use native.Mathlib.Omega.{arith}
use mathlib.Core.Path.{◌≡◌, refl, sym, ap, ◌∙◌, subst}
use mathlib.Core.Bool.{false}
use mathlib.Core.List.{List, [], ◌∷◌}
use lib.ListN.{length, get_or}
use lib.Seq.{take_all}
use Rattle.std.specs.Prelude.{Ok}
use Rattle.rules.specs.Types.{Recorded}
use Rattle.rules.specs.Sizes.{name_count, cell_count, memory_length, observation_length}
use Rattle.rules.specs.Words.{part, word_at, flat}
use Rattle.rules.specs.Kinds.{target}
use Rattle.rules.specs.Checker.{check, inputs_fault}
use Rattle.rules.specs.Memory.{one}
use Rattle.rules.specs.Observation.{Observation, covers, covered}
use Rattle.rules.specs.Layout.{block_record, recorded_bytes, mark_bytes, observation_image, block_place, mark_place}
use Rattle.rules.specs.Layout.{recorded_from, recorded_at, mark_at, observation_of}
use Rattle.rules.specs.Flow.{ending}
use Rattle.rules.specs.Answers.{watched_outcome, run_watched}
use Rattle.rules.proofs.Lists.Rows.{row-part}
use Rattle.rules.specs.Fits.{FitsRecorded, FitsObservation, All, none, also}
use Rattle.rules.proofs.Layouts.LayoutLaws.{length-recorded_bytes, length-observation_image, image-recorded}
use Rattle.rules.proofs.Layouts.LayoutLaws.{image-mark-byte, image-mark, observation-back}
use Rattle.rules.proofs.Claim.UnrefusedRuns.{watched-runs}
use Rattle.rules.proofs.Memory.ObservationOrder.{OrderlyObservation}
use Rattle.rules.proofs.Memory.ObservedRuns.{observed-in-order}

pub record OrderlyBytes (l : List ℕ) : Type 0 where
  -- what the bytes stand for is in order, and they are its bytes and no others
  pub order : OrderlyObservation (observation_of l)
  pub whole : observation_image (observation_of l) ≡ l
  pub size : length l ≡ observation_length
  -- "block records (state 0 unused, 1 live, 2 dead; rest alike, first counting marks)"
  pub records : (k : ℕ) → k < name_count → part 8 l (block_place k) ≡ recorded_bytes (recorded_at l k)
  -- "A dead block has first and length 0"
  pub dead : (k : ℕ) → k < name_count → get_or l (block_place k) 0 ≡ 2 → part 8 l (block_place k) ≡ block_record 2 0 0
  -- "then 1,024 marks of one byte, 1 for initialised"
  pub marks : (i : ℕ) → i < cell_count → get_or l (mark_place i) 0 ≡ one (mark_at l i)
  -- "marks outside live blocks are 0"
  pub outside : (i : ℕ) → i < cell_count → ((k : ℕ) → k < name_count → covers (recorded_at l k) i ≡ false)
      → get_or l (mark_place i) 0 ≡ 0

-- an observation memory in order fits its layout
fits : (o : Observation) → OrderlyObservation o → FitsObservation o
fits o y = record {
  record-count = y.record-count;
  mark-count = y.mark-count;
  records-fit = each o.blocks (λ k. recorded-fits (get_or o.blocks k Recorded.Dead) (y.within (suc k)));
}
  where
    recorded-fits : (b : Recorded) → ((first n : ℕ) → b ≡ Recorded.Live first n → first + n ≤ cell_count)
        → FitsRecorded b
    recorded-fits Recorded.Unused h = tt
    recorded-fits (Recorded.Live first n) h = let r = h first n refl in (omega arith, omega arith)
    recorded-fits Recorded.Dead h = tt

    each : (l : List Recorded) → ((k : ℕ) → FitsRecorded (get_or l k Recorded.Dead)) → All FitsRecorded l
    each [] h = none
    each (b ∷ l) h = also (h 0) (each l (λ k. h (suc k)))

-- a place that no record covers
covered-by-none : (l : List Recorded) (i : ℕ) → ((k : ℕ) → k < length l → covers (get_or l k Recorded.Dead) i ≡ false)
    → covered l i ≡ false
unfolding covered
covered-by-none [] i h = refl
covered-by-none (b ∷ l) i h =
    rw (h 0 (omega arith), covered) (covered-by-none l i (λ k d. h (suc k) (omega arith)))

dead-at : (l : List ℕ) (k : ℕ) → get_or l (block_place k) 0 ≡ 2 → recorded_at l k ≡ Recorded.Dead
unfolding recorded_at
dead-at l k e = ap (λ s. recorded_from s (word_at 2 l (block_place k + 2)) (word_at 2 l (block_place k + 4))) e

dead-bytes : recorded_bytes Recorded.Dead ≡ block_record 2 0 0
unfolding recorded_bytes
dead-bytes = refl

image-record : (o : Observation) → OrderlyObservation o → (k : ℕ) → k < name_count
    → part 8 (observation_image o) (block_place k) ≡ recorded_bytes (recorded_at (observation_image o) k)
unfolding observation_image
image-record o y k h =
    let b : Recorded = get_or o.blocks k Recorded.Dead in
    row-part recorded_bytes 8 length-recorded_bytes [] o.blocks (flat mark_bytes o.marks) k Recorded.Dead
    (omega (arith, y.record-count)) 8 (block_place k) 0 (omega arith) (omega arith)
    ∙ take_all 8 (recorded_bytes b) (omega (arith, length-recorded_bytes b))
    ∙ ap recorded_bytes (sym (image-recorded o (fits o y) k h))

pub image-in-order : (o : Observation) → OrderlyObservation o → OrderlyBytes (observation_image o)
image-in-order o y = record {
  order = subst OrderlyObservation (sym back) y;
  whole = ap observation_image back;
  size = length-observation_image o y.record-count y.mark-count;
  records = image-record o y;
  dead = λ k h e. image-record o y k h ∙ ap recorded_bytes (dead-at (observation_image o) k e) ∙ dead-bytes;
  marks = λ i h. image-mark-byte o (fits o y) i h ∙ ap one (sym (image-mark o (fits o y) i h));
  outside = λ i h g.
      image-mark-byte o (fits o y) i h ∙ ap one (y.outside i (covered-by-none o.blocks i (λ k d.
      ap (λ b. covers b i) (sym (image-recorded o (fits o y) k (names k d))) ∙ g k (names k d))));
}
  where
    back : observation_of (observation_image o) ≡ o
    back = observation-back o (fits o y)

    names : (k : ℕ) → k < length o.blocks → k < name_count
    names k d = omega (arith, y.record-count)

-- for every accepted target table, where nothing is refused
pub watched-bytes-in-order : (t i : List ℕ) (f : ℕ) (memory observation : List ℕ) → check target t ≡ Ok tt
    → inputs_fault i ≡ false → length memory ≡ memory_length → length observation ≡ observation_length
    → OrderlyBytes (run_watched t i f memory observation).observation
watched-bytes-in-order t i f memory observation c e h k =
    subst (λ r. OrderlyBytes r.observation) (sym (watched-runs t i f memory observation c e h k))
    (image-in-order (ending (watched_outcome t i f)).state.observation (observed-in-order t i f))
