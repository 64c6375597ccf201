-- The types that code and definitions share, as src/lib.rt declares them. Other crates name those of the `pub use`
-- lines by their own modules, as `declared.Stop.Stop`.
use Rattle.std.specs.Prelude.{ℕ, Bool, ℤ, Option, Result}
pub use Rattle.rules.specs.declared.Pointer.{Pointer}
pub use Rattle.rules.specs.declared.Value.{Value}
pub use Rattle.rules.specs.declared.Stop.{Stop}
pub use Rattle.rules.specs.declared.Miss.{Miss}
pub use Rattle.rules.specs.declared.Block.{Block}
pub use Rattle.rules.specs.declared.Recorded.{Recorded}
pub use Rattle.rules.specs.declared.Cell.{Cell}
pub use Rattle.rules.specs.declared.Rule.{Rule}
pub use Rattle.rules.specs.declared.Refusal.{Refusal}
pub use Rattle.rules.specs.declared.Answer.{Answer}

-- what evaluating gives, if it does not stop
abbrev pub Evaluated : Type 0
Evaluated = Result Value Stop

-- what finding a place gives: where it is
abbrev pub Found : Type 0
Found = Result Pointer Stop

-- "Conditions are integers, true when not 0"
abbrev pub Test : Type 0
Test = Result Bool Stop

-- what an operator on integers gives
abbrev pub Number : Type 0
Number = Result ℤ Stop

-- where a pointer leads: a cell, or none because its block is not live or its offset outside
abbrev pub Located : Type 0
Located = Result ℕ Miss

-- the lowest of several numbers that pass a test, if one does
abbrev pub Search : Type 0
Search = Option ℕ

-- a temporary is "empty at first"
abbrev pub Temporary : Type 0
Temporary = Option Value

-- what the checker says
abbrev pub Checked : Type 0
Checked = Result Unit Refusal

-- the number of an ending
abbrev pub stop_number : Stop → ℕ
stop_number Stop.NoRun = 30
stop_number Stop.NamesGiven = 31
stop_number Stop.NoFuel = 32
stop_number Stop.FalseAssertion = 33
stop_number Stop.WrongSort = 40
stop_number Stop.UndefinedCell = 41
stop_number Stop.DeadBlock = 42
stop_number Stop.Overflow = 43
stop_number Stop.ZeroDivisor = 44
stop_number Stop.SizeBelowOne = 45
stop_number Stop.WrongFree = 46
stop_number Stop.NotLive = 47
stop_number Stop.Contradiction = 48
stop_number Stop.EmptyTemporary = 49
stop_number Stop.OutsideBlock = 50

-- at a cell's reading and storing. 02 §2: "42 means that the block is dead", "50, offset outside a live block, found
-- after 42"
abbrev pub missed : Miss → Stop
missed Miss.Dead = Stop.DeadBlock
missed Miss.Outside = Stop.OutsideBlock

-- the number of a refusal
abbrev pub rule_number : Rule → ℕ
rule_number Rule.Length = 1
rule_number Rule.Count = 2
rule_number Rule.Kind = 3
rule_number Rule.Field = 4
rule_number Rule.Child = 5
rule_number Rule.Shape = 6
rule_number Rule.Scope = 7
rule_number Rule.Level = 8
rule_number Rule.Inputs = 9
rule_number Rule.Output = 20
rule_number Rule.Memory = 21
rule_number Rule.Observation = 22
