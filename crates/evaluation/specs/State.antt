-- What a run's own numbers stand for: the blocks of the variables.
use Rattle.std.specs.Prelude.{ℕ, List, ◌≡◌, get_or, Option, Some, None}
use Rattle.rules.specs.Evaluation.{Variables, Holding}
use Rattle.rules.specs.Types.{Evaluated}

abbrev pub variables_of : List ℕ → Variables
variables_of l v = get_or l v 0

-- what is settled holds whatever the temporaries hold; what is left open says nothing
abbrev pub Settles : Option Evaluated → (Holding ℕ → Evaluated) → Type 0
Settles (Some e) v = (τ : Holding ℕ) → e ≡ v τ
Settles None v = Unit {0}
