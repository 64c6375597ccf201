-- Of the records above n the levels of their children are known, and the lowest that breaks the rule is found.
use Rattle.rules.specs.Kinds.{source}
use Rattle.std.proofs.Common.{◌≤◌}
use Rattle.rules.specs.Records.{record_count}
use Rattle.rules.specs.Checker.{level_fault}
use Rattle.checker.proofs.DescentLaws.{Known, Fresh}
use Rattle.checker.proofs.RightLaws.{Levelled}
use Rattle.checker.proofs.Lowest.{Lowest}
use Rattle.checker.proofs.searches.lowest_too_deep.Given as goal

abbrev pub invariant-loop-n : goal.invariant-loop-n
invariant-loop-n l = record {
  in_table : l.n ≤ record_count l.table;
  known : Known (Levelled l.table) source l.table l.n l.levels;
  lowest : Lowest (level_fault l.table) (record_count l.table) l.n l.found;
  fresh : Fresh source l.table l.n l.levels;
}
