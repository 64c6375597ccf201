-- Rules 1 and 2, and then the others.
use Rattle.std.proofs.Common.{◌∙◌, arith}
use Rattle.checker.proofs.OrderLaws.{check-empty, check-uneven, check-many, check-rest}
use Rattle.checker.proofs.check_table.Goals as goal
use Rattle.checker.proofs.check_table.Goals.{then-table-eq0-via-then-table-eq0}
use Rattle.checker.proofs.check_table.Goals.{then-table-eq0-via-else-table-eq0+then-table-ne0}

pub returns-then-table-eq0 : goal.returns-then-table-eq0
returns-then-table-eq0 c =
    let a = c.args in
    elim c.then-table-eq0.branch [
      | then-table-eq0-via-then-table-eq0 w ↦ check-empty a.language a.table.now w.if-table-eq0.true
      | then-table-eq0-via-else-table-eq0+then-table-ne0 w ↦
          check-uneven a.language a.table.now w.if-table-eq0.false w.if-table-ne0.true
    ]

pub returns-then-limit-table : goal.returns-then-limit-table
returns-then-limit-table c =
    let a = c.args in
    check-many a.language a.table.now c.if-table-eq0.false c.if-table-ne0.false (omega arith)

pub returns : goal.returns
returns c =
    let a = c.args in
    c.check_records.ensures
    ∙ check-rest a.language a.table.now c.if-table-eq0.false c.if-table-ne0.false (omega arith)
