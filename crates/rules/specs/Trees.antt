-- The trees of a source table. Expressions and places serve both languages: T is what names a temporary,
-- ⊥ in a source table, which has none, and a number in a target table.
use Rattle.std.specs.Prelude.{ℕ, ℤ}

-- "1 add, 2 subtract, 3 multiply, 4 divide toward zero, 5 divide to nearest .., 6 at most, 7 equal, 8 pointer shift";
-- where a half goes, 02 §1 decides
abbrev pub Operator : Type 0
Operator = Rattle.rules.specs.declared.Operator.Operator

pattern abbrev pub add : Operator
add = Rattle.rules.specs.declared.Operator.TheVariants.Add

pattern abbrev pub subtract : Operator
subtract = Rattle.rules.specs.declared.Operator.TheVariants.Subtract

pattern abbrev pub multiply : Operator
multiply = Rattle.rules.specs.declared.Operator.TheVariants.Multiply

pattern abbrev pub divide : Operator
divide = Rattle.rules.specs.declared.Operator.TheVariants.Divide

pattern abbrev pub nearest : Operator
nearest = Rattle.rules.specs.declared.Operator.TheVariants.Nearest

pattern abbrev pub at_most : Operator
at_most = Rattle.rules.specs.declared.Operator.TheVariants.AtMost

pattern abbrev pub equal : Operator
equal = Rattle.rules.specs.declared.Operator.TheVariants.Equal

pattern abbrev pub shift : Operator
shift = Rattle.rules.specs.declared.Operator.TheVariants.Shift

-- "1 valid, 2 initialised, 3 base address, 4 offset, 5 length"
abbrev pub Query : Type 0
Query = Rattle.rules.specs.declared.Query.Query

pattern abbrev pub valid : Query
valid = Rattle.rules.specs.declared.Query.TheVariants.Valid

pattern abbrev pub initialised : Query
initialised = Rattle.rules.specs.declared.Query.TheVariants.Initialised

pattern abbrev pub base : Query
base = Rattle.rules.specs.declared.Query.TheVariants.Base

pattern abbrev pub offset : Query
offset = Rattle.rules.specs.declared.Query.TheVariants.Offset

pattern abbrev pub block_length : Query
block_length = Rattle.rules.specs.declared.Query.TheVariants.BlockLength

mutual
  pub data Expression (T : Type 0) : Type 0 where
    literal : ℤ → Expression T
    read : Place T → Expression T
    address : Place T → Expression T
    operation : Operator → Expression T → Expression T → Expression T
    shifted : Expression T → Expression T → Expression T

  pub data Place (T : Type 0) : Type 0 where
    variable : ℕ → Place T
    pointed : Expression T → Place T
    temporary : T → Place T

pub data Term : Type 0 where
  value : Expression ⊥ → Term
  asked : Query → Term → Term
  combined : Operator → Term → Term → Term

pub data Predicate : Type 0 where
  holds : Query → Term → Predicate
  compared : Operator → Term → Term → Predicate
  negated : Predicate → Predicate
  both : Predicate → Predicate → Predicate
  either : Predicate → Predicate → Predicate

-- each statement has its number, that of its record
pub data Statement : Type 0 where
  skip : ℕ → Statement
  assign : ℕ → Place ⊥ → Expression ⊥ → Statement
  new : ℕ → Place ⊥ → Expression ⊥ → Statement
  free : ℕ → Expression ⊥ → Statement
  sequence : ℕ → Statement → Statement → Statement
  branch : ℕ → Expression ⊥ → Statement → Statement → Statement
  while : ℕ → Expression ⊥ → Statement → Statement
  let_in : ℕ → ℕ → Statement → Statement
  assert : ℕ → Predicate → Statement
