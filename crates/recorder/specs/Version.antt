-- The version that a host asks for before it lends anything.
use Rattle.std.specs.Prelude.{ℕ, cond, eqb}

-- It rises with every change of a layout, a size or a rule. 1 was document 01 with names of one byte; 2 is document 01
-- as 02 §1 to §5 change it, with names of two.
abbrev pub rules_version : ℕ
rules_version = 2

-- how many bytes the memories have
pub record Lengths : Type 0 where
  pub memory : ℕ
  pub observation : ℕ

abbrev pub lengths : ℕ → ℕ → Lengths
lengths memory observation = record { memory = memory; observation = observation }

-- those of each version: 1 had "18,424 bytes" and "3,064", 2 has, by 02 §5, "49,144 bytes" and "33,784"
abbrev pub lengths_of : ℕ → Lengths
lengths_of v = cond (eqb v 1) (lengths 18424 3064) (lengths 49144 33784)
