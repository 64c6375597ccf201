-- The entry: a buffer that is copied whole, and a memory of the right length.
use Prim.Native.Nat.{ℕ, ◌+◌}
use native.Mathlib.Omega.{arith}
use mathlib.Core.Bool.{Bool, true, false, not, false≢true}
use mathlib.Core.List.{List, ◌++◌, append-nil}
use mathlib.Core.Path.{◌≡◌, refl, sym, ap, ◌∙◌}
use borrow.Author.Tests.{eqb-true}
use lib.Dec.{eqb}
use lib.ListN.{length, drop}
use lib.Seq.{drop-length}
use Rattle.rules.specs.Sizes.{memory_length}
use Rattle.rules.specs.Words.{put}
use Rattle.rules.specs.Checker.{memory_fault}

pub put_all : (l b : List ℕ) → length l ≡ length b → put l 0 b ≡ b
put_all l b e =
    let z : 0 + length b ≡ length l = omega (arith, e) in
    ap (λ (x : List ℕ). b ++ x) (ap (λ (k : ℕ). drop k l) z ∙ drop-length l) ∙ append-nil b

pub memory-whole : (m : List ℕ) → memory_fault m ≡ false → length m ≡ memory_length
memory-whole m h = eqb-true (length m) memory_length (go (eqb (length m) memory_length) h)
  where
    go : (b : Bool) → not b ≡ false → b ≡ true
    go true e = refl
    go false e = absurd (false≢true (sym e))
