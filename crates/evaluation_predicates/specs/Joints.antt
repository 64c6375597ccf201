-- What A of an 'and' or an 'or' decides.
use Rattle.std.specs.Prelude.{Bool, cond, Option, Some, None, Err, Ok}
use Rattle.rules.specs.Numbers.{tested}
use Rattle.rules.specs.Memory.{on_value}
use Rattle.rules.specs.Evaluation.{on_test}
use Rattle.rules.specs.Types.{Evaluated}

-- "'and' and 'or' skip B when A decides": what A gives, by itself, or nothing, so that B decides
abbrev pub joint_of : Bool → Evaluated → Option Evaluated
joint_of is_or a =
    on_value a (λ k. Some (Err k)) (λ v.
    on_test (tested v) (λ k. Some (Err k))
    (cond is_or (Some (Ok v)) None)
    (cond is_or None (Some (Ok v))))
