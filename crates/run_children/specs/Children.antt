-- What a statement finds in the bytes that its run has: the blocks of the variables, the temporaries, the memory.
use Rattle.std.specs.Prelude.{ℕ, cond, List, eqb, Option, Some, None}
use Rattle.rules.specs.Records.{kind_of, child_a, child_b}
use Rattle.rules.specs.Kinds.{target}
use Rattle.rules.specs.Nodes.{as_expression, as_place, node_at}
use Rattle.rules.specs.Evaluation.{evaluate, find_place}
use Rattle.rules.specs.Watched.{temporary_of}
use Rattle.rules.specs.Layout.{memory_of}
use Rattle.rules.specs.Types.{Evaluated, Found}
use Rattle.evaluation.specs.State.{variables_of}
use Rattle.evaluation_temporaries.specs.Bytes.{temporaries_of}

-- where the place that is record k is
abbrev pub found_in : List ℕ → ℕ → List ℕ → List ℕ → List ℕ → Found
found_in t k variables temporaries mem =
    find_place (as_place (node_at target t k)) (temporary_of (temporaries_of temporaries)) (variables_of variables)
    (memory_of mem)

-- the value of the expression that is record k
abbrev pub value_in : List ℕ → ℕ → List ℕ → List ℕ → List ℕ → Evaluated
value_in t k variables temporaries mem =
    evaluate (as_expression (node_at target t k)) (temporary_of (temporaries_of temporaries)) (variables_of variables)
    (memory_of mem)

-- what statement n runs first: A of a sequence, else itself; and then: B of a sequence, else nothing
abbrev pub first_of : List ℕ → ℕ → ℕ
first_of t n = cond (eqb (kind_of t n) 44) (child_a t n) n

abbrev pub rest_of : List ℕ → ℕ → Option ℕ
rest_of t n = cond (eqb (kind_of t n) 44) (Some (child_b t n)) None
