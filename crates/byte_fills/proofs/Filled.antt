-- A fill of the part up to the end, and of none.
use Prim.Native.Nat.{ℕ, ◌+◌, ◌-◌, ◌≤◌, ◌<◌, min}
use native.Mathlib.Omega.{arith}
use native.Mathlib.Decide.{dec_lt}
use mathlib.Core.Path.{◌≡◌, refl, sym, ap, ◌∙◌}
use mathlib.Core.List.{List}
use lib.ListN.{length, replicate}
use borrow.Rule.Slice.PartMut.{mid_of, put_mid}
use Rattle.rules.specs.Memory.{fill}
use Rattle.rules.proofs.Lists.FillLaws.{fill_none, fill-past, fill-part}

module _ (l : List ℕ) (s n x e : ℕ) (end : e ≡ min (length l) (s + n)) where
  pub filled : (part : List ℕ) → s < e → part ≡ replicate (length (mid_of s (e - s) l)) x
      → put_mid s (e - s) l part ≡ fill l s n x
  filled part h p = fill-part x l s (e - s) (e - s) (omega arith) refl p ∙ pick (dec_lt e (s + n))
    where
      pick : Dec (e < s + n) → fill l s (e - s) x ≡ fill l s n x
      pick (yes k) = sym (fill-past x l s (e - s) n (omega arith) (omega arith))
      pick (no k) = let all : e - s ≡ n = omega arith in ap (λ (m : ℕ). fill l s m x) all

  pub not_filled : e ≤ s → l ≡ fill l s n x
  not_filled h = sym (pick (dec_lt s (length l)))
    where
      pick : Dec (s < length l) → fill l s n x ≡ l
      pick (yes k) = let none : n ≡ 0 = omega arith in ap (λ (m : ℕ). fill l s m x) none ∙ fill_none x l s
      pick (no k) = fill-past x l s 0 n (omega arith) (omega arith) ∙ fill_none x l s
