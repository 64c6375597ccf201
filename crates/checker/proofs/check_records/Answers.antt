-- The first record that breaks one of rules 3 to 5 is the lowest; where none does, the others follow.
use Rattle.std.proofs.Common.{◌+◌, ◌∙◌, arith}
use Rattle.std.proofs.lemmas.Result.{err_from_is_err_and}
use Rattle.checker_forms.specs.Forms.{Before}
use Rattle.checker.specs.Scopes.{Formed}
use Rattle.checker.proofs.OrderLaws.{record-refused, record-kept, records-kept, shapes-next}
use Rattle.checker.proofs.check_records.Goals as goal
use Rattle.checker.proofs.check_records.Goals.{Left-loop-n, else-loop-n-test}
use Rattle.checker.proofs.check_records.Goals.{then-loop-n-test+in_ok-check_record+else-n-n-end}

pub returns-in_err-check_record : goal.returns-in_err-check_record
returns-in_err-check_record c =
    let a = c.args in
    let e = c.loop-n in
    let p = err_from_is_err_and c.from_residual.result c.from_residual.ensures.1 in
    rw (p.1, p.2)
    (record-refused a.language a.table.now e.n e.invariant c.in_err-check_record.field-0.0 (omega arith) (omega arith)
    c.in_err-check_record.ensures)

formed : (c : Left-loop-n) → Formed c.args.language c.args.table.now
formed c =
    let a = c.args in
    let e = c.loop-n in
    elim c.loop-n-test.branch [
      | else-loop-n-test w ↦ records-kept a.language a.table.now e.n e.invariant (omega arith) c.requires
      | then-loop-n-test+in_ok-check_record+else-n-n-end w ↦
          let last : Before a.language a.table.now (e.n + 1) =
          record-kept a.language a.table.now e.n e.invariant w.in_ok-check_record.field-0
          w.in_ok-check_record.ensures in
          records-kept a.language a.table.now (e.n + 1) last (omega arith) c.requires
    ]

pub check_formed-requires : goal.check_formed-requires
check_formed-requires c = formed c

pub returns : goal.returns
returns c =
    c.check_formed.ensures
    ∙ shapes-next c.args.language c.args.table.now (formed (goal.at.returns c).Left-loop-n)
