-- The lines of the records before the nth are written.
use Rattle.std.proofs.Common.{◌+◌, ◌-◌}
use Rattle.rules.specs.Records.{record_count}
use Rattle.listing_text.specs.Text.{table_lines}
use Rattle.listing_text.proofs.RecordsLaws.{Remaining, lines_from}
use Rattle.listing_text.proofs.Text.records.Given as goal

abbrev pub invariant-loop-n : goal.invariant-loop-n
invariant-loop-n l =
    Remaining l.fn.self (table_lines l.table) l.self (lines_from l.table (l.n - 1) (record_count l.table + 1 - l.n))
