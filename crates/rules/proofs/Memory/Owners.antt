-- Names in rising order and the owners of cells, where the block of one name or one cell is set.
use Prim.Native.Nat.{ℕ, ◌≤◌, ◌<◌}
use native.Mathlib.Omega.{arith}
use native.Mathlib.Decide.{ℕ_discrete}
use mathlib.Core.Path.{◌≡◌, sym, ap, ◌∙◌}
use mathlib.Core.Logic.{◌⊎◌, inl, inr}
use mathlib.Core.Bool.{true, false, true≢false}
use mathlib.Core.List.{List}
use lib.ListN.{length, get_or, set}
use lib.Seq.{get_or-set_same, get_or-set_other}
use Rattle.rules.specs.Types.{Block, Cell}
use Rattle.rules.specs.Memory.{recorded_of, named, is_unused, set_named}
use Rattle.rules.specs.Observation.{covers}
use Rattle.rules.proofs.Memory.MemoryLaws.{named-set_named, named-set_named-other}
use Rattle.rules.proofs.Memory.Invariant.{Rising, Owned}

-- the block of name k becomes x, which is not unused
module _ (l : List Block) (k : ℕ) (x : Block) (used : is_unused x ≡ false) where
  -- a name that was given stays given
  pub given-set_named : (j : ℕ) → is_unused (named l j Block.Dead) ≡ false
      → is_unused (named (set_named l k x) j Block.Dead) ≡ false
  given-set_named j h = go (named-set_named l k j x Block.Dead)
    where
      go : (named (set_named l k x) j Block.Dead ≡ x) ⊎ (named (set_named l k x) j Block.Dead ≡ named l j Block.Dead)
          → is_unused (named (set_named l k x) j Block.Dead) ≡ false
      go (inl e) = ap is_unused e ∙ used
      go (inr e) = ap is_unused e ∙ h

  -- names rise on, where every name below k was given
  pub rising-set_named : ((j : ℕ) → 1 ≤ j → j < k → is_unused (named l j Block.Dead) ≡ false) → Rising l
      → Rising (set_named l k x)
  rising-set_named lower r j t a b c h = go (ℕ_discrete j t) (ℕ_discrete t k)
    where
      go : Dec (j ≡ t) → Dec (t ≡ k) → is_unused (named (set_named l k x) j Block.Dead) ≡ false
      go (yes e) d = ap (λ i. is_unused (named (set_named l k x) i Block.Dead)) e ∙ h
      go (no e) (yes d) = given-set_named j (lower j a (omega arith))
      go (no e) (no d) =
          given-set_named j
          (r j t a b c (ap is_unused (sym (named-set_named-other l k t x Block.Dead d)) ∙ h))

-- a cell outside the block of name k keeps its owner, whatever becomes of that block
pub owned-set_named : (l : List Block) (k i : ℕ) (x : Block) (c : Cell)
    → covers (recorded_of (named l k Block.Dead)) i ≡ false → Owned l i c → Owned (set_named l k x) i c
owned-set_named l k i x Cell.Free h w = tt
owned-set_named l k i x (Cell.Holds o v) h w = go (ℕ_discrete o k)
  where
    go : Dec (o ≡ k) → covers (recorded_of (named (set_named l k x) o Block.Dead)) i ≡ true
    go (yes e) = absurd (true≢false (sym w ∙ ap (λ j. covers (recorded_of (named l j Block.Dead)) i) e ∙ h))
    go (no e) = ap (λ b. covers (recorded_of b) i) (named-set_named-other l k o x Block.Dead e) ∙ w

-- a cell is set, with an owner whose live block it lies in
pub owned-set : (l : List Block) (s : List Cell) (i : ℕ) (c : Cell) → i < length s → Owned l i c
    → ((j : ℕ) → Owned l j (get_or s j Cell.Free)) → (j : ℕ) → Owned l j (get_or (set s i c) j Cell.Free)
owned-set l s i c h w r j = go (ℕ_discrete j i)
  where
    go : Dec (j ≡ i) → Owned l j (get_or (set s i c) j Cell.Free)
    go (yes e) = rw (e, get_or-set_same s i c Cell.Free h) w
    go (no e) = rw (get_or-set_other s i j c Cell.Free e) (r j)
