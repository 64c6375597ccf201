-- What making a block answers.
use Rattle.std.specs.Prelude.{ℕ, Result, Ok, Err}
use Rattle.rules.specs.Memory.{Memory, Made, made, unmade}
use Rattle.rules.specs.declared.Stop.{Stop}

-- the name or the ending that making a block answers, and the memory after it
abbrev pub making_of : Made Memory → Result ℕ Stop
making_of (made k m) = Ok k
making_of (unmade c) = Err c

abbrev pub made_memory : Memory → Made Memory → Memory
made_memory m (made k m₁) = m₁
made_memory m (unmade c) = m
