-- What evaluating a source expression gives: a value that is defined, or a stop.
use Rattle.rules.specs.Types.{Value, Evaluated}
use Rattle.rules.specs.Trees.{Expression}
use Rattle.rules.specs.Memory.{Memory}
use Rattle.rules.specs.Evaluation.{Variables, no_temporaries, evaluate_source}
use Rattle.rules.specs.Answers.{evaluation_endings}
use Rattle.rules.proofs.Runs.EvaluationEndings.{EvaluatedAmong, evaluate-among}

abbrev pub Defined : Value → Type 0
Defined Value.Undefined = ⊥
Defined (Value.Integer z) = Unit {0}
Defined (Value.Pointer p) = Unit {0}

abbrev pub FairEvaluated : Evaluated → Type 0
FairEvaluated e = EvaluatedAmong Defined evaluation_endings e

pub fair-source : (e : Expression ⊥) (ρ : Variables) (m : Memory) → FairEvaluated (evaluate_source e ρ m)
fair-source e ρ m =
    evaluate-among Defined (λ z. tt) (λ p. tt) evaluation_endings (λ c h. h) e no_temporaries (λ t. elim t [ ]) ρ m
