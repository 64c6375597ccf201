-- Each answer is one case of what the form of the record's kind says.
use Rattle.std.proofs.Common.{◌≡◌, Bool, sym, ap, ap₂, ◌∙◌}
use Rattle.rules.specs.Records.{record_at}
use Rattle.rules.specs.Checker.{fields_fit, children_fit, record_fault}
use Rattle.rules.proofs.Acceptance.SaidLaws.{faults}
use Rattle.checker_forms.specs.Forms.{form_from}
use Rattle.checker_forms.proofs.KeptLaws.{some_form}
use Rattle.checker_forms.proofs.record_fault.Goals as goal
use Rattle.checker_forms.proofs.record_fault.Goals.{In_ok-form}

said : (c : In_ok-form) → let a = c.args in let f = form_from 0 c.in_ok-form.form in
    record_fault a.language a.table.now a.n ≡ faults (fields_fit f (record_at a.table.now a.n))
    (children_fit a.language a.table.now a.n f (record_at a.table.now a.n))
said c =
    let a = c.args in
    some_form a.language a.table.now a.n c.kind.result c.form_of.result c.kind.ensures c.form_of.ensures
    c.in_ok-form.form c.in_ok-form.ensures.ok_part

pub returns-then-not-fields_fit : goal.returns-then-not-fields_fit
returns-then-not-fields_fit c =
    let a = c.args in
    let f = form_from 0 c.in_ok-form.form in
    let children = children_fit a.language a.table.now a.n f (record_at a.table.now a.n) in
    sym (said (goal.at.returns-then-not-fields_fit c).In_ok-form
    ∙ ap (λ (b : Bool). faults b children) (sym c.if-not-fields_fit.ensures))

pub returns-then-not-children_fit : goal.returns-then-not-children_fit
returns-then-not-children_fit c =
    sym (said (goal.at.returns-then-not-children_fit c).In_ok-form
    ∙ ap₂ faults (sym c.if-not-fields_fit.ensures) (sym c.if-not-children_fit.ensures))

pub returns : goal.returns
returns c =
    sym (said (goal.at.returns c).In_ok-form
    ∙ ap₂ faults (sym c.if-not-fields_fit.ensures) (sym c.if-not-children_fit.ensures))
