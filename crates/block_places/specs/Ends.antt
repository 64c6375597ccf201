-- Where a block ends, by the words of its record.
use Rattle.std.specs.Prelude.{ℕ, ◌+◌, ◌-◌, List}
use Rattle.rules.specs.Words.{word_at}
use Rattle.rules.specs.Layout.{block_place}

-- its first place and its length: "first cell in two bytes; length in two"
abbrev pub end_at : List ℕ → ℕ → ℕ
end_at l k = word_at 2 l (block_place (k - 1) + 2) + word_at 2 l (block_place (k - 1) + 4)
