-- What a temporary's sixteen bytes hold, and what was read of it.
use Prim.Native.Nat.{ℕ, ◌+◌, ◌<◌}
use native.Mathlib.Nat.{zero-add}
use mathlib.Core.List.{List}
use mathlib.Core.Logic.{◌≢◌}
use mathlib.Core.Path.{◌≡◌, sym, ap, ap₂, ◌∙◌}
use lib.IntN.{ℤ}
use lib.ListN.{get_or}
use Rattle.rules.specs.Words.{word_at, integer_at}
use Rattle.rules.specs.Layout.{cell_from}
use Rattle.rules.specs.Evaluation.{held}
use Rattle.rules.specs.Watched.{Temporaries, temporary_of, held_in}
use Rattle.rules.proofs.Lists.Rows.{get_d_tabulate}
use Rattle.memory_cells.proofs.Reading.{other-cell}
use Rattle.evaluation_temporaries.specs.Bytes.{temporary_in, temporary_place, temporary_at, temporaries_of}
use Rattle.rules.specs.declared.{Value.Value, Cell.Cell}
use Rattle.rules.specs.declared.{Stop.Stop}
use Rattle.rules.specs.Types.{Evaluated}
use Rattle.std.specs.Prelude.{Err, None, Ok}

pub temporary-in : (l : List ℕ) (n : ℕ) → n < 64 → temporary_of (temporaries_of l) n ≡ temporary_at l n
unfolding temporaries_of
temporary-in l n h = get_d_tabulate 64 0 n (temporary_at l) None h ∙ ap (temporary_at l) (zero-add n)

abbrev told : ℕ → ℕ → ℤ → Evaluated
told k w z = held (temporary_in (cell_from k 0 w z))

module _ (l : List ℕ) (n : ℕ) (h : n < 64) where
  abbrev kind : ℕ
  kind = get_or l (temporary_place n) 0

  abbrev name : ℕ
  name = word_at 2 l (temporary_place n + 4)

  abbrev number : ℤ
  number = integer_at l (temporary_place n + 8)

  held_at : held_in (temporaries_of l) n ≡ told kind name number
  unfolding temporary_at
  held_at = ap held (temporary-in l n h)

  held_by : (k : ℕ) → kind ≡ k → told k name number ≡ held_in (temporaries_of l) n
  held_by k e = sym (held_at ∙ ap (λ (k : ℕ). told k name number) e)

  pub empty-held : kind ≡ 0 → Err Stop.EmptyTemporary ≡ held_in (temporaries_of l) n
  empty-held e = held_by 0 e

  pub undefined-held : kind ≡ 1 → Ok Value.Undefined ≡ held_in (temporaries_of l) n
  undefined-held e = held_by 1 e

  pub integer-held : {z : ℤ} → kind ≡ 2 → z ≡ number → Ok (Value.Integer z) ≡ held_in (temporaries_of l) n
  integer-held e z = ap (λ (z : ℤ). Ok (Value.Integer z)) z ∙ held_by 2 e

  pub pointer-held : {w : ℕ} {z : ℤ} → kind ≢ 0 → kind ≢ 1 → kind ≢ 2 → w ≡ name → z ≡ number
      → Ok (Value.Pointer (record { name = w; offset = z })) ≡ held_in (temporaries_of l) n
  pointer-held a b c w z =
      ap₂ (λ (w : ℕ) (z : ℤ). Ok (Value.Pointer (record { name = w; offset = z }))) w z
      ∙ ap (λ (x : Cell). held (temporary_in x)) (other-cell kind 0 name number a b c)
      ∙ sym held_at

-- what a temporary holds, by what was read of it under an equal number
pub holds_at : (τ : Temporaries) (i j : ℕ) {e x : Evaluated} → i ≡ j → e ≡ held_in τ i → e ≡ x → held_in τ j ≡ x
holds_at τ i j h a b = sym (a ∙ ap (held_in τ) h) ∙ b
