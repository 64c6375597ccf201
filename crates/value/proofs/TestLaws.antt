-- A test whose errors are stops.
use mathlib.Core.Path.{◌≡◌, ap}
use Rattle.std.specs.Prelude.{Result, Ok, Err, MatchResult, IsErrAnd}
use Rattle.rules.specs.Evaluation.{condition}
use Rattle.rules.specs.Numbers.{tested}
use Rattle.rules.specs.Types.{Evaluated, Test}
use Rattle.rules.specs.declared.{Stop.Stop}

-- a stop that goes out as itself
same-stop : {A : Type 0} (s r : Result A Stop) → MatchResult s (λ x. r ≡ Ok x) (λ k. IsErrAnd r (λ x. x ≡ k)) → r ≡ s
same-stop (Ok x) r h = h
same-stop (Err k) (Ok x) h = absurd h
same-stop (Err k) (Err x) h = ap Err h

pub tests_condition : (e : Evaluated) {r : Test}
    → MatchResult e (λ v. MatchResult (tested v) (λ b. r ≡ Ok b) (λ s. IsErrAnd r (λ x. x ≡ s))) (λ x. r ≡ Err x)
    → r ≡ condition e
tests_condition (Ok v) {r} h = same-stop (tested v) r h
tests_condition (Err x) h = h
