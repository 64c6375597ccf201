-- What the bytes of a memory are after one record of it changes.
use Prim.Native.Nat.{ℕ, suc, ◌+◌, ◌*◌, ◌<◌, ◌≤◌}
use native.Mathlib.Nat.{mul-le-mul_right}
use native.Mathlib.Omega.{arith}
use mathlib.Core.Path.{◌≡◌, ap, ◌∙◌}
use mathlib.Core.Bool.{Bool}
use mathlib.Core.List.{List, ◌++◌}
use lib.ListN.{length, set}
use Rattle.rules.specs.Types.{Block, Recorded, Cell}
use Rattle.rules.specs.Sizes.{name_count}
use Rattle.rules.specs.Words.{put, flat}
use Rattle.rules.specs.Memory.{Memory, set_cell}
use Rattle.rules.specs.Observation.{Observation}
use Rattle.rules.specs.Layout.{block_bytes, cell_bytes, memory_image, recorded_bytes, mark_bytes, observation_image}
use Rattle.rules.specs.Layout.{block_place, cell_place, mark_place}
use Rattle.rules.proofs.Lists.Rows.{put-left, put_right, length-flat, flat-put}
use Rattle.rules.proofs.Layouts.LayoutLaws.{length-block_bytes, length-recorded_bytes, length-cell_bytes}
use Rattle.rules.proofs.Layouts.LayoutLaws.{length-mark_bytes}

-- rows of width v and then rows of width w: a put of one of the first, and of one of the others
module _ {A B : Type 0} (f : A → List ℕ) (v : ℕ) (f-wide : (x : A) → length (f x) ≡ v)
    (g : B → List ℕ) (w : ℕ) (g-wide : (y : B) → length (g y) ≡ w) (xs : List A) (ys : List B) where
  pub put_first : (k : ℕ) (x : A) → k < length xs
      → put (flat f xs ++ flat g ys) (k * v) (f x) ≡ flat f (set xs k x) ++ flat g ys
  put_first k x h =
      put-left (flat f xs) (flat g ys) (k * v) (f x) room
      ∙ ap (λ (t : List ℕ). t ++ flat g ys) (flat-put f v f-wide xs k x h)
    where
      within : suc k * v ≤ length xs * v
      within = mul-le-mul_right v h

      room : k * v + length (f x) ≤ length (flat f xs)
      room = omega (arith, within, length-flat f v f-wide xs, f-wide x)

  pub put_second : (at i : ℕ) (y : B) → at ≡ length xs * v + i * w → i < length ys
      → put (flat f xs ++ flat g ys) at (g y) ≡ flat f xs ++ flat g (set ys i y)
  put_second at i y e h =
      let place : at ≡ length (flat f xs) + i * w = omega (arith, length-flat f v f-wide xs) in
      rw place (put_right (flat f xs) (flat g ys) (i * w) (g y)
      ∙ ap (λ (t : List ℕ). flat f xs ++ t) (flat-put g w g-wide ys i y h))

module _ (m : Memory) where
  pub image-put-block : (k : ℕ) (b : Block) → k < length m.blocks
      → put (memory_image m) (block_place k) (block_bytes b)
      ≡ memory_image (record { blocks = set m.blocks k b; cells = m.cells })
  unfolding memory_image
  image-put-block k b h =
      put_first block_bytes 8 length-block_bytes cell_bytes 16 length-cell_bytes m.blocks m.cells k b h

  pub image-put-cell : (i : ℕ) (c : Cell) → length m.blocks ≡ name_count → i < length m.cells
      → put (memory_image m) (cell_place i) (cell_bytes c) ≡ memory_image (set_cell m i c)
  unfolding memory_image
  image-put-cell i c e h =
      put_second block_bytes 8 length-block_bytes cell_bytes 16 length-cell_bytes m.blocks m.cells (cell_place i) i c
      (omega arith) h

module _ (o : Observation) where
  pub image-put-recorded : (k : ℕ) (b : Recorded) → k < length o.blocks
      → put (observation_image o) (block_place k) (recorded_bytes b)
      ≡ observation_image (record { blocks = set o.blocks k b; marks = o.marks })
  unfolding observation_image
  image-put-recorded k b h =
      put_first recorded_bytes 8 length-recorded_bytes mark_bytes 1 length-mark_bytes o.blocks o.marks k b h

  pub image-put-mark : (i : ℕ) (b : Bool) → length o.blocks ≡ name_count → i < length o.marks
      → put (observation_image o) (mark_place i) (mark_bytes b)
      ≡ observation_image (record { blocks = o.blocks; marks = set o.marks i b })
  unfolding observation_image
  image-put-mark i b e h =
      put_second recorded_bytes 8 length-recorded_bytes mark_bytes 1 length-mark_bytes o.blocks o.marks (mark_place i)
      i b (omega arith) h
