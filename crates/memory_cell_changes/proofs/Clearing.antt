-- Cleared bytes are the image of the empty memory.
use Prim.Native.Nat.{ℕ, ◌*◌}
use mathlib.Core.Path.{◌≡◌, refl, sym, ap₂, ◌∙◌}
use mathlib.Core.List.{List, ◌++◌}
use lib.ListN.{replicate, length-replicate, replicate-append-replicate}
use Rattle.rules.specs.Sizes.{name_count, cell_count, memory_length, blocks_length}
use Rattle.rules.specs.Words.{digits}
use Rattle.rules.specs.Layout.{memory_of, memory_image, block_bytes, cell_bytes}
use Rattle.rules.proofs.Lists.Rows.{flat-all}
use Rattle.rules.proofs.Lists.Lists.{all_replicate}
use Rattle.rules.specs.Fits.{FitsMemory}
use Rattle.rules.proofs.Layouts.LayoutLaws.{memory-back}
use Rattle.rules.specs.declared.{Block.Block, Cell.Cell}
use Rattle.memory_cells.specs.Changes.{empty_memory}

empty_image : replicate memory_length 0 ≡ memory_image empty_memory
unfolding memory_image block_bytes cell_bytes digits
empty_image =
    sym (ap₂ (λ (x y : List ℕ). x ++ y) (flat-all block_bytes Block.Unused 8 name_count refl)
    (flat-all cell_bytes Cell.Free 16 cell_count refl)
    ∙ replicate-append-replicate blocks_length (cell_count * 16) 0)

pub cleared : {l : List ℕ} (n : ℕ) → n ≡ memory_length → l ≡ replicate n 0 → l ≡ memory_image empty_memory
cleared n e q = q ∙ rw e empty_image

empty-fits : FitsMemory empty_memory
empty-fits = record {
  block-count = length-replicate name_count Block.Unused;
  cell-count = length-replicate cell_count Cell.Free;
  blocks-fit = all_replicate name_count Block.Unused tt;
  cells_fit = all_replicate cell_count Cell.Free tt;
}

pub empty-view : memory_of (memory_image empty_memory) ≡ empty_memory
empty-view = memory-back empty_memory empty-fits
