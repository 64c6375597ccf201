-- The rules in their order, from each on.
use Rattle.rules.specs.Kinds.{Language}
use Rattle.rules.specs.declared.{Rule.Rule}
use Rattle.std.specs.Prelude.{ℕ, List, is_err}
use Rattle.rules.specs.Types.{Checked}
use Rattle.rules.specs.Checker.{lowest_record, record_fault, shape_fault, scope_fault, refuse_by, refuse_at}
use Rattle.rules.specs.Checker.{◌otherwise◌, last_rule}

unfoldable pub from_scopes : Language → List ℕ → Checked
from_scopes l t = refuse_at Rule.Scope (lowest_record t (scope_fault l t)) otherwise last_rule l t

unfoldable pub from_shapes : Language → List ℕ → Checked
from_shapes l t = refuse_at Rule.Shape (lowest_record t (shape_fault l t)) otherwise from_scopes l t

unfoldable pub from_records : Language → List ℕ → Checked
from_records l t =
    refuse_by (record_fault l t) (lowest_record t (λ n. is_err (record_fault l t n))) otherwise from_shapes l t
