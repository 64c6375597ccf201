-- What a reader of a record asks.
use Rattle.std.specs.Prelude.{ℕ, ◌≤◌, ◌<◌, List}
use Rattle.rules.specs.Records.{record_count}

-- the table has record n
abbrev pub Within : List ℕ → ℕ → Type 0
Within t n = (0 < n) × (n ≤ record_count t)
