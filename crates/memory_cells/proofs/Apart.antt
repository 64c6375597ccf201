-- Rows of one width do not overlap.
use Prim.Native.Nat.{ℕ, suc, ◌+◌, ◌*◌, ◌<◌, ◌≤◌}
use native.Mathlib.Nat.{mul-le-mul_right}
use native.Mathlib.Omega.{arith}
use native.Mathlib.Decide.{dec_lt}
use mathlib.Core.Logic.{◌≢◌, ◌⊎◌, inl, inr}

pub rows_apart : (w i j : ℕ) → j ≢ i → (j * w + w ≤ i * w) ⊎ (i * w + w ≤ j * w)
rows_apart w i j d = pick (dec_lt j i)
  where
    below : (a b : ℕ) → a < b → a * w + w ≤ b * w
    below a b h = let k : suc a * w ≤ b * w = mul-le-mul_right w h in omega arith

    pick : Dec (j < i) → (j * w + w ≤ i * w) ⊎ (i * w + w ≤ j * w)
    pick (yes h) = inl (below j i h)
    pick (no f) = inr (below i j (omega arith))
