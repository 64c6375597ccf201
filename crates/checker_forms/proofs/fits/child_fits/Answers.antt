-- A child that stands before the record has the sort that its kind's tens give.
use Rattle.std.proofs.Common.{Option, ◌≡◌, true, sym, ap, subst, ◌∙◌, arith}
use borrow.Author.Tests.{ltb-true}
use Rattle.rules.specs.Checker.{field_fits, child_fits}
use Rattle.rules.specs.Kinds.{Sort, child}
use Rattle.checker_forms.specs.Forms.{child_from, sort_by}
use Rattle.checker_forms.proofs.KeptLaws.{child-sort}
use Rattle.checker_forms.proofs.fits.child_fits.Goals as goal

pub returns-then-x-n : goal.returns-then-x-n
returns-then-x-n c =
    let a = c.args in
    let sort = c.in-Some.sort in
    let there : field_fits (child sort) a.x ≡ true =
    subst (λ (o : Option Sort). field_fits (child_from o) a.x ≡ true) c.in-Some.is c.requires.2 in
    c.eq.ensures
    ∙ child-sort a.language a.table.now a.n a.x c.sort_of.result sort c.if-x-n.true
    (c.requires.1 a.x (omega (arith, ltb-true 0 a.x there)) c.if-x-n.true)
    (c.sort_of.ensures ∙ ap sort_by c.kind.ensures)
    ∙ sym (ap (λ (o : Option Sort). child_fits a.language a.table.now a.n (child_from o) a.x) c.in-Some.is)
