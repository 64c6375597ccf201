-- What a branch tests.
use Rattle.std.specs.Prelude.{ℕ, cond, List, ◌⊎◌, ◌≡◌, eqb}
use Rattle.rules.specs.Records.{kind_of, mark_of, child_a}
use Rattle.rules.specs.Memory.{Memory}
use Rattle.rules.specs.Evaluation.{Variables, evaluate, condition}
use Rattle.rules.specs.Watched.{Temporaries, temporary_of, held_in}
use Rattle.rules.specs.Nodes.{target_expression_at}
use Rattle.rules.specs.Types.{Test}

-- what decides between B and C: condition A of 45, temporary n of 66
abbrev pub IsBranch : ℕ → Type 0
IsBranch k = (k ≡ 45) ⊎ (k ≡ 66)

abbrev pub choice : List ℕ → ℕ → Temporaries → Variables → Memory → Test
choice t n τ ρ m =
    condition
    (cond (eqb (kind_of t n) 66) (held_in τ (mark_of t n))
    (evaluate (target_expression_at t (child_a t n)) (temporary_of τ) ρ m))
