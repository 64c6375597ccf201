-- The blocks that an operator asks about, apart from the memory that it asks.
use Rattle.std.specs.Prelude.{ℕ, Bool, true, ◌&&◌, Option, Some, None}
use Rattle.rules.specs.declared.{Value.Value}
use Rattle.rules.specs.Trees.{Operator, add, subtract, multiply, divide, nearest, at_most, equal, shift}
use Rattle.rules.specs.Numbers.{Liveness}

-- the names of two blocks, or nothing
abbrev pub Compared : Type 0
Compared = Option (ℕ × ℕ)

-- the blocks of two pointers
abbrev pub blocks_of : Value → Value → Compared
blocks_of Value.Undefined y = None
blocks_of (Value.Integer x) y = None
blocks_of (Value.Pointer p) Value.Undefined = None
blocks_of (Value.Pointer p) (Value.Integer y) = None
blocks_of (Value.Pointer p) (Value.Pointer q) = Some (p.name, q.name)

-- equality alone compares pointers
abbrev pub compared_by : Operator → Value → Value → Compared
compared_by add x y = None
compared_by subtract x y = None
compared_by multiply x y = None
compared_by divide x y = None
compared_by nearest x y = None
compared_by at_most x y = None
compared_by equal x y = blocks_of x y
compared_by shift x y = None

-- whether the blocks that are compared, if any, are live
abbrev pub are_live : Liveness → Compared → Bool
are_live live None = true
are_live live (Some (x, y)) = live x && live y

-- as if every block were live
abbrev pub every_live : Liveness
every_live k = true
