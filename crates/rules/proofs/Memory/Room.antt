-- Room for a new block: what the searches for its name and its cells find.
use Prim.Native.Nat.{ℕ, suc, ◌+◌, ◌-◌, ◌≤◌, ◌<◌}
use native.Mathlib.Omega.{arith}
use mathlib.Core.Path.{◌≡◌, refl, sym}
use mathlib.Core.Bool.{true, false, true≢false}
use Rattle.std.specs.Prelude.{None, Some}
use Rattle.rules.specs.Types.{Search, Block}
use Rattle.rules.specs.Sizes.{name_count, cell_count}
use Rattle.rules.specs.Memory.{Memory, block_of, cell_of, all_free, lowest_run, is_free, free_run, is_unused, next_name}
use Rattle.rules.proofs.Lists.SearchLaws.{Found, lowest-found}
use Rattle.rules.proofs.Memory.MemoryLaws.{all_free-at}

-- a name, the lowest that is unused, and cells for a new block
pub record Room (m : Memory) (n k first : ℕ) : Type 0 where
  pub unused : block_of m k ≡ Block.Unused
  pub lower : (j : ℕ) → 1 ≤ j → j < k → is_unused (block_of m j) ≡ false
  pub from : 1 ≤ k
  pub to : k ≤ name_count
  pub fits : first + n ≤ cell_count
  pub clear : (i : ℕ) → first ≤ i → i < first + n → is_free (cell_of m i) ≡ true

abbrev pub HasRoom : Memory → ℕ → Search → Search → Type 0
HasRoom m n None s = Unit {0}
HasRoom m n (Some k) None = Unit {0}
HasRoom m n (Some k) (Some first) = Room m n k first

unused-is : (b : Block) → is_unused b ≡ true → b ≡ Block.Unused
unused-is Block.Unused e = refl
unused-is (Block.Fixed first n) e = absurd (true≢false (sym e))
unused-is (Block.Freeable first n) e = absurd (true≢false (sym e))
unused-is Block.Dead e = absurd (true≢false (sym e))

pub room : (m : Memory) (n : ℕ) → HasRoom m n (next_name m) (free_run m n)
unfolding lowest_run
room m n = go (next_name m) (free_run m n) (lowest-found _ _ _) (lowest-found _ _ _)
  where
    go : (r s : Search) → Found (λ k. is_unused (block_of m k)) 1 name_count r
        → Found (λ s. all_free (λ i. is_free (cell_of m i)) s n) 0 (suc cell_count - n) s → HasRoom m n r s
    go None s p q = tt
    go (Some k) None p q = tt
    go (Some k) (Some first) p q = record {
      unused = unused-is (block_of m k) p.passes;
      lower = p.none-lower;
      from = p.from;
      to = omega (arith, p.below);
      fits = omega (arith, q.below);
      clear = λ i a b. all_free-at _ first n i q.passes a b;
    }
