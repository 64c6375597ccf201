-- The rules in their order: where a record breaks 6 it is named, else one that breaks 7, else what 8 says.
use Rattle.std.proofs.Common.{◌∙◌}
use Rattle.std.proofs.lemmas.Result.{err_from_is_err_and}
use Rattle.rules.specs.Checker.{shape_fault, scope_fault}
use Rattle.checker.specs.Scopes.{Kept}
use Rattle.checker.proofs.OrderLaws.{kept_of, found-fits, shape-refused, scope-refused, level-next}
use Rattle.checker.proofs.answers.conclude.Goals as goal

pub refuse_at-requires : goal.refuse_at-requires
refuse_at-requires c =
    let a = c.args in
    let h = c.requires in
    found-fits a.language a.table.now (shape_fault a.language a.table.now) a.misshapen h.formed.sized h.shapes

pub returns-in_err-refuse_at : goal.returns-in_err-refuse_at
returns-in_err-refuse_at c =
    let a = c.args in
    let p = err_from_is_err_and c.from_residual.result c.from_residual.ensures.1 in
    rw (p.1, p.2)
    (shape-refused a.language a.table.now a.misshapen a.hidden c.requires.shapes c.in_err-refuse_at.field-0.0
    c.in_err-refuse_at.ensures)

pub refuse_at-requires-2 : goal.refuse_at-requires-2
refuse_at-requires-2 c =
    let a = c.args in
    let h = c.requires in
    let first = c.in_ok-refuse_at in
    let kept : Kept a.language a.table.now =
    kept_of a.language a.table.now a.misshapen a.hidden first.field-0 h first.ensures in
    found-fits a.language a.table.now (scope_fault a.language a.table.now) a.hidden h.formed.sized (h.scopes kept)

pub returns-in_err-refuse_at-2 : goal.returns-in_err-refuse_at-2
returns-in_err-refuse_at-2 c =
    let a = c.args in
    let h = c.requires in
    let first = c.in_ok-refuse_at in
    let second = c.in_err-refuse_at-2 in
    let kept : Kept a.language a.table.now =
    kept_of a.language a.table.now a.misshapen a.hidden first.field-0 h first.ensures in
    let exit = c.from_residual-in_err-refuse_at-2 in
    let p = err_from_is_err_and exit.result exit.ensures.1 in
    rw (p.1, p.2)
    (scope-refused a.language a.table.now a.misshapen a.hidden h.shapes first.field-0 first.ensures (h.scopes kept)
    second.field-0.0 second.ensures)

pub returns : goal.returns
returns c =
    let a = c.args in
    let h = c.requires in
    let first = c.in_ok-refuse_at in
    let second = c.in_ok-refuse_at-2 in
    let kept : Kept a.language a.table.now =
    kept_of a.language a.table.now a.misshapen a.hidden first.field-0 h first.ensures in
    c.check_levels.ensures
    ∙ level-next a.language a.table.now a.misshapen a.hidden h.shapes first.field-0 first.ensures (h.scopes kept)
    second.field-0 second.ensures
