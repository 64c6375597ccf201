-- The record that is passed keeps 3 to 5, so that its mark is a variable's where rule 7 asks for one.
use Rattle.std.proofs.Common.{◌≡◌, ℕ, ◌<◌, ◌&&◌, ◌||◌, eqb, get_or, sym, subst, ◌∙◌}
use Rattle.rules.specs.Checker.{record_fault}
use Rattle.checker.specs.Scopes.{bit, out_of_scope}
use Rattle.checker.proofs.DescentLaws.{no-fault}
use Rattle.checker.proofs.RightLaws.{mark-used, mark-let}
use Rattle.checker.proofs.TurnLaws.{passing-start, passing-down}
use Rattle.checker.proofs.shapes.check_shapes.Goals as goal
use Rattle.std.specs.Prelude.{Ok}

pub loop-n-init : goal.loop-n-init
loop-n-init c =
    let a = c.args in
    passing-start a.language a.table.now a.notes.now c.last_note.result c.requires c.last_note.ensures

pub is_out_of_scope-requires : goal.is_out_of_scope-requires
is_out_of_scope-requires c =
    let a = c.args in
    let l = a.language in
    let t = a.table.now in
    let e = c.loop-n in
    let none : record_fault l t e.n ≡ Ok tt =
    no-fault l t c.requires.formed e.n c.loop-n-test.true e.invariant.within in
    let ek = c.kind-kind.ensures in
    let em = c.mark-mark.ensures in (
      λ h. subst (λ (m : ℕ). m < 64) (sym em) (mark-used l t e.n none (sym ek ∙ h)),
      λ h. subst (λ (m : ℕ). m < 64) (sym em) (mark-let l t e.n none (sym ek ∙ h)),
    )

pub scope_below-requires : goal.scope_below-requires
scope_below-requires c =
    let a = c.args in
    let l = a.language in
    let t = a.table.now in
    let e = c.loop-n in
    let none : record_fault l t e.n ≡ Ok tt =
    no-fault l t c.requires.formed e.n c.loop-n-test.true e.invariant.within in
    let ek = c.kind-kind.ensures in
    let em = c.mark-mark.ensures in
    λ h. subst (λ (m : ℕ). m < 64) (sym em) (mark-let l t e.n none (sym ek ∙ h))

pub loop-n-preserved : goal.loop-n-preserved
loop-n-preserved c =
    let a = c.args in
    let e = c.loop-n in
    let ek = c.kind-kind.ensures in
    let em = c.mark-mark.ensures in
    let scope = get_or e.notes e.n 0 in
    let out = c.is_out_of_scope in
    let below = c.scope_below in
    passing-down a.language a.table.now c.requires.formed e.notes c.pass_scope.new.notes e.misshapen
    c.lower-misshapen.result e.hidden c.lower-hidden.result e.n below.result out.result c.loop-n-test.true e.invariant
    c.lower-misshapen.ensures (out.ensures ∙ (λ i. out_of_scope (ek i) (em i) scope)) c.lower-hidden.ensures
    below.ensures.0 (λ h y. below.ensures.1 h y ∙ (λ i. (eqb (ek i) 47 && eqb (em i) y) || bit scope y))
    c.pass_scope.ensures
