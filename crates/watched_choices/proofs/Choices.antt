-- What a branch tests, by its kind.
use Prim.Native.Nat.{ℕ}
use mathlib.Core.Bool.{Bool, cond}
use mathlib.Core.List.{List}
use mathlib.Core.Logic.{◌≢◌, inl, inr}
use mathlib.Core.Path.{◌≡◌, sym, ap}
use borrow.Author.Tests.{eq-eqb, ne_eqb}
use Rattle.rules.specs.Records.{kind_of, mark_of, child_a}
use Rattle.rules.specs.Memory.{Memory}
use Rattle.rules.specs.Evaluation.{Variables, evaluate, condition}
use Rattle.rules.specs.Watched.{Temporaries, temporary_of, held_in}
use Rattle.rules.specs.Nodes.{target_expression_at}
use Rattle.rules.specs.Types.{Test}
use Rattle.watched_choices.specs.Branches.{IsBranch, choice}

pub not_on : {k : ℕ} → IsBranch k → k ≢ 66 → k ≡ 45
not_on (inl e) d = e
not_on (inr e) d = absurd (d e)

module _ (t : List ℕ) (n : ℕ) (τ : Temporaries) (ρ : Variables) (m : Memory) where
  chosen_by : Bool → Test
  chosen_by b =
      condition
      (cond b (held_in τ (mark_of t n)) (evaluate (target_expression_at t (child_a t n)) (temporary_of τ) ρ m))

  pub choice-on : kind_of t n ≡ 66 → condition (held_in τ (mark_of t n)) ≡ choice t n τ ρ m
  unfolding chosen_by
  choice-on e = ap chosen_by (sym (eq-eqb (kind_of t n) 66 e))

  pub choice-of : kind_of t n ≢ 66
      → condition (evaluate (target_expression_at t (child_a t n)) (temporary_of τ) ρ m) ≡ choice t n τ ρ m
  unfolding chosen_by
  choice-of d = ap chosen_by (sym (ne_eqb (kind_of t n) 66 d))
