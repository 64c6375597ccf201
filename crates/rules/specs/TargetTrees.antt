-- The statements of a target table. Each has first its literal, "the number of the source statement it came from".
-- The kinds of its own then have the temporary n that their mark names.
use Rattle.std.specs.Prelude.{ℕ}
use Rattle.rules.specs.Trees.{Operator, Query, Expression, Place}

pub data TargetStatement : Type 0 where
  skip : ℕ → TargetStatement
  assign : ℕ → Place ℕ → Expression ℕ → TargetStatement
  new : ℕ → Place ℕ → Expression ℕ → TargetStatement
  free : ℕ → Expression ℕ → TargetStatement
  sequence : ℕ → TargetStatement → TargetStatement → TargetStatement
  branch : ℕ → Expression ℕ → TargetStatement → TargetStatement → TargetStatement
  while : ℕ → Expression ℕ → TargetStatement → TargetStatement
  let_in : ℕ → ℕ → TargetStatement → TargetStatement
  take_address : ℕ → ℕ → Place ℕ → TargetStatement
  take_value : ℕ → ℕ → Expression ℕ → TargetStatement
  take_operation : ℕ → ℕ → Operator → TargetStatement
  take_query : ℕ → ℕ → Query → TargetStatement
  take_not : ℕ → ℕ → TargetStatement
  branch_on : ℕ → ℕ → TargetStatement → TargetStatement → TargetStatement
  assert_on : ℕ → ℕ → TargetStatement
  store_block : ℕ → ℕ → TargetStatement
  delete_block : ℕ → ℕ → TargetStatement
  initialise : ℕ → ℕ → TargetStatement
