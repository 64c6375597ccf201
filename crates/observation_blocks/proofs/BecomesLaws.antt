-- What bytes stand for after a change of one record or of some marks, and that exact bytes stay exact.
use Prim.Native.Nat.{ℕ, zero, suc, ◌+◌, ◌-◌, ◌*◌, ◌<◌, ◌≤◌}
use native.Mathlib.Nat.{zero-add}
use native.Mathlib.Omega.{arith}
use mathlib.Core.Path.{◌≡◌, refl, sym, ap, ◌∙◌}
use mathlib.Core.Bool.{Bool, true, false, ◌&&◌, cond}
use mathlib.Core.List.{List, ◌++◌}
use lib.Dec.{eqb, ltb, leb}
use lib.ListN.{length, get_or, set, take, drop, length-drop, take-append-drop, get_or-append}
use lib.Seq.{length-take-le, get_or-append-add, take-append-le, drop-append-le, set_out}
use Rattle.rules.specs.Sizes.{name_count, cell_count, observation_length, blocks_length}
use Rattle.rules.specs.Words.{little, put, word_at, flat, tabulate}
use Rattle.rules.specs.Memory.{one, fill}
use Rattle.rules.specs.Observation.{Observation}
use Rattle.rules.specs.Layout.{block_record, block_place, mark_place, recorded_from, recorded_at, mark_at}
use Rattle.rules.specs.Layout.{observation_of, observation_image, recorded_bytes, mark_bytes}
use Rattle.rules.specs.declared.{Recorded.Recorded}
use Rattle.rules.proofs.Lists.WordLaws.{get_d-put-after}
use Rattle.rules.proofs.Lists.Rows.{length-tabulate, get_d_tabulate, tabulate-same, tabulate-list, tabulate-set}
use Rattle.rules.proofs.Lists.Lists.{length-fill}
use Rattle.rules.proofs.Layouts.LayoutLaws.{length-recorded_bytes, records-length}
use Rattle.rules.proofs.Layouts.ImagePuts.{image-put-recorded}
use Rattle.rules.proofs.Lists.FillLaws.{fill_one, fill-right, get_d-fill, flat-marks-fill}
use Rattle.rules.proofs.Lists.RecordLaws.{length-record, record-put-same, record-put-other}
use Rattle.observation_blocks.specs.Changes.{ObservationBecomes, with_named, with_mark, mark_range}
use Rattle.observation_records.proofs.ObservationLaws.{record-count, mark-count}

pub becomes-same : (l : List ℕ) → ObservationBecomes l l (observation_of l)
becomes-same l = record { view = refl; exact = λ x. x }

-- one after the other
pub becomes-then : {l l' l'' : List ℕ} {o : Observation} (f : Observation → Observation)
    → ObservationBecomes l l' o → ObservationBecomes l' l'' (f (observation_of l')) → ObservationBecomes l l'' (f o)
becomes-then f a b = record { view = b.view ∙ ap f a.view; exact = λ x. b.exact (a.exact x) }

-- ---- a record
module _ (l : List ℕ) (long : length l ≡ observation_length) (k s first n : ℕ) (h : k < name_count) where
  room : block_place k + 8 ≤ length l
  room = omega arith

  mark-apart : (j : ℕ) → j < cell_count → mark_at (put l (block_place k) (block_record s first n)) j ≡ mark_at l j
  unfolding mark_at
  mark-apart j b =
      ap (λ (x : ℕ). eqb x 1) (get_d-put-after l (block_record s first n) (block_place k)
      (omega (arith, room, length-record s first n)) (mark_place j) (omega (arith, length-record s first n)))

  view-record : first < 65536 → n < 65536 → observation_of (put l (block_place k) (block_record s first n))
      ≡ with_named (observation_of l) (suc k) (recorded_from s first n)
  unfolding observation_of recorded_at
  view-record f g = λ t. record {
    blocks = tabulate-set name_count k (recorded_at l) (recorded_at (put l (block_place k) (block_record s first n)))
        (recorded_from s first n) h (record-put-same recorded_from l k s first n room f g)
        (λ j b d. record-put-other recorded_from l k s first n room j d) t;
    marks = tabulate-same cell_count (mark_at l) (mark_at (put l (block_place k) (block_record s first n)))
        mark-apart t;
  }

  becomes-record : first < 65536 → n < 65536 → recorded_bytes (recorded_from s first n) ≡ block_record s first n
      → ObservationBecomes l (put l (block_place k) (block_record s first n))
      (with_named (observation_of l) (suc k) (recorded_from s first n))
  becomes-record f g c =
      let v = view-record f g in
      record {
        view = v;
        exact = λ x.
            ap (λ (t : List ℕ). put t (block_place k) (block_record s first n)) x
            ∙ ap (put (observation_image (observation_of l)) (block_place k)) (sym c)
            ∙ image-put-recorded (observation_of l) k (recorded_from s first n) inside
            ∙ ap observation_image (sym v);
      }
    where
      inside : k < length (observation_of l).blocks
      inside = omega (arith, record-count l)

-- ---- marks
-- the marks of bytes that are nothing else
abbrev marks_of : List ℕ → List Bool
marks_of b = tabulate 0 cell_count (λ i. eqb (get_or b i 0) 1)

marks-fill : (m : List ℕ) (first n : ℕ) (b : Bool) → length m ≡ cell_count
    → marks_of (fill m first n (one b)) ≡ fill (marks_of m) first n b
marks-fill m first n b e =
    tabulate-list cell_count (λ i. eqb (get_or (fill m first n (one b)) i 0) 1) (fill (marks_of m) first n b) false
    (length-fill (marks_of m) first n b ∙ count) at
  where
    count : length (marks_of m) ≡ cell_count
    count = length-tabulate cell_count 0 (λ i. eqb (get_or m i 0) 1)

    pick : (w : Bool) (c : Bool) (x : ℕ) → eqb (cond w (one c) x) 1 ≡ cond w c (eqb x 1)
    pick true true x = refl
    pick true false x = refl
    pick false c x = refl

    at : (j : ℕ) → j < cell_count
        → eqb (get_or (fill m first n (one b)) j 0) 1 ≡ get_or (fill (marks_of m) first n b) j false
    at j h =
        let i : j < length m = omega arith in
        let k : j < length (marks_of m) = omega (arith, count) in
        ap (λ (x : ℕ). eqb x 1) (get_d-fill (one b) m first n j 0 i)
        ∙ pick (leb first j && ltb j (first + n)) b (get_or m j 0)
        ∙ ap (cond (leb first j && ltb j (first + n)) b)
        (sym (get_d_tabulate cell_count 0 j (λ i. eqb (get_or m i 0) 1) false h
        ∙ ap (λ (i : ℕ). eqb (get_or m i 0) 1) (zero-add j)))
        ∙ sym (get_d-fill b (marks_of m) first n j false k)

-- records and marks, one after the other
module _ (a m : List ℕ) (long : length a ≡ name_count * 8) where
  front-word : (at : ℕ) → at + 2 ≤ length a → word_at 2 (a ++ m) at ≡ word_at 2 a at
  unfolding word_at
  front-word at h =
      let p : at ≤ length a = omega arith in
      let q : 2 ≤ length (drop at a) = simp length-drop (omega arith) in
      ap little (ap (take 2) (drop-append-le at a m p) ∙ take-append-le 2 (drop at a) m q)

  front-record : (k : ℕ) → k < name_count → recorded_at (a ++ m) k ≡ recorded_at a k
  unfolding recorded_at
  front-record k h =
      let z = get_or-append a m 0 (block_place k) (omega arith) in
      let x = front-word (block_place k + 2) (omega arith) in
      let y = front-word (block_place k + 4) (omega arith) in
      λ i. recorded_from (z i) (x i) (y i)

  behind-mark : (j : ℕ) → j < cell_count → mark_at (a ++ m) j ≡ eqb (get_or m j 0) 1
  unfolding mark_at
  behind-mark j h =
      ap (λ (x : ℕ). eqb x 1) (ap (λ (i : ℕ). get_or (a ++ m) i 0) (place j) ∙ get_or-append-add a m j 0)
    where
      place : (j : ℕ) → mark_place j ≡ length a + j
      place j = omega arith

  parts : observation_of (a ++ m) ≡ record { blocks = tabulate 0 name_count (recorded_at a); marks = marks_of m }
  unfolding observation_of
  parts = λ t. record {
    blocks = tabulate-same name_count (recorded_at a) (recorded_at (a ++ m)) front-record t;
    marks = tabulate-same cell_count (λ j. eqb (get_or m j 0) 1) (mark_at (a ++ m)) behind-mark t;
  }

image-fill : (o : Observation) (first n : ℕ) (b : Bool) → length o.blocks ≡ name_count
    → fill (observation_image o) (mark_place first) n (one b) ≡ observation_image (mark_range o first n b)
unfolding observation_image
image-fill o first n b e =
    fill-right (one b) (flat recorded_bytes o.blocks) (flat mark_bytes o.marks) first n (mark_place first)
    (omega (arith, records-length recorded_bytes o.blocks length-recorded_bytes e))
    ∙ ap (λ (t : List ℕ). flat recorded_bytes o.blocks ++ t) (flat-marks-fill o.marks first n b)

module _ (l : List ℕ) (long : length l ≡ observation_length) (first n : ℕ) (b : Bool) where
  front_length : length (take blocks_length l) ≡ blocks_length
  front_length = length-take-le blocks_length l (omega arith)

  split : fill l (mark_place first) n (one b) ≡ take blocks_length l ++ fill (drop blocks_length l) first n (one b)
  split =
      ap (λ (t : List ℕ). fill t (mark_place first) n (one b)) (sym (take-append-drop blocks_length l))
      ∙ fill-right (one b) (take blocks_length l) (drop blocks_length l) first n (mark_place first)
      (omega (arith, front_length))

  view-fill : observation_of (fill l (mark_place first) n (one b)) ≡ mark_range (observation_of l) first n b
  view-fill =
      let rest : length (drop blocks_length l) ≡ cell_count = length-drop blocks_length l ∙ omega arith in
      ap observation_of split ∙ parts (take blocks_length l) (fill (drop blocks_length l) first n (one b)) front_length
      ∙ ap
      (λ (x : List Bool). record { blocks = tabulate 0 name_count (recorded_at (take blocks_length l)); marks = x })
      (marks-fill (drop blocks_length l) first n b rest)
      ∙ ap (λ (o : Observation). mark_range o first n b)
      (sym (parts (take blocks_length l) (drop blocks_length l) front_length)
      ∙ ap observation_of (take-append-drop blocks_length l))

  becomes-fill : ObservationBecomes l (fill l (mark_place first) n (one b)) (mark_range (observation_of l) first n b)
  becomes-fill = record {
    view = view-fill;
    exact = λ x.
        ap (λ (t : List ℕ). fill t (mark_place first) n (one b)) x
        ∙ image-fill (observation_of l) first n b (record-count l) ∙ ap observation_image (sym view-fill);
  }

becomes-byte : (l : List ℕ) (i : ℕ) (b : Bool) → length l ≡ observation_length
    → ObservationBecomes l (set l (mark_place i) (one b)) (mark_range (observation_of l) i 1 b)
becomes-byte l i b long = rw (fill_one (one b) l (mark_place i)) at (becomes-fill l long i 1 b)

pub becomes-mark : (l : List ℕ) (i : ℕ) → length l ≡ observation_length
    → ObservationBecomes l (set l (mark_place i) 1) (with_mark (observation_of l) i)
becomes-mark l i long = rw (fill_one true (observation_of l).marks i) at (becomes-byte l i true long)

-- marks that are filled with 0
pub becomes-cleared : {l l' : List ℕ} (first n : ℕ) → length l ≡ observation_length
    → l' ≡ fill l (mark_place first) n 0 → ObservationBecomes l l' (mark_range (observation_of l) first n false)
becomes-cleared {l} first n long e = rw e (becomes-fill l long first n false)

-- a mark past the end is none
pub becomes-out : (l : List ℕ) (i : ℕ) → cell_count ≤ i → ObservationBecomes l l (with_mark (observation_of l) i)
becomes-out l i h =
    let past : length (observation_of l).marks ≤ i = omega (arith, mark-count l) in
    record {
      view = λ t. record {
        blocks = (observation_of l).blocks;
        marks = sym
            (set_out (observation_of l).marks i true past) t;
      };
      exact = λ x. x;
    }

pub ruleset marks_set = (becomes-mark, becomes-out)

-- the record of a name
pub becomes-written : {l l' : List ℕ} {b : Recorded} (k s first n : ℕ) → length l ≡ observation_length
    → (0 < k) × (k ≤ name_count) → (first < 65536) × (n < 65536) → b ≡ recorded_from s first n
    → recorded_bytes (recorded_from s first n) ≡ block_record s first n
    → l' ≡ put l (block_place (k - 1)) (block_record s first n)
    → ObservationBecomes l l' (with_named (observation_of l) k b)
becomes-written zero s first n long h r e c w = absurd (omega (arith, h.0))
becomes-written {l} {l'} {b} (suc k) s first n long h r e c w =
    let before : suc k - 1 ≡ k = omega arith in
    rw (e, w, before) (becomes-record l long k s first n h.1 r.0 r.1 c)
