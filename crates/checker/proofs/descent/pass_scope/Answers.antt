-- A child stands before the record, so there is a note for it; and it is noted as often as it is a child.
use Rattle.std.proofs.Common.{List, ℕ, sym, subst, ◌∙◌, arith}
use Rattle.checker.specs.Notes.{third_child, note_at}
use Rattle.checker.specs.Scopes.{Noted}
use Rattle.checker.proofs.DescentLaws.{no-fault}
use Rattle.checker.proofs.GivenLaws.{fields-below}
use Rattle.checker.proofs.TimesLaws.{noted-three}
use Rattle.checker.proofs.descent.pass_scope.Goals as goal

pub note_child-requires : goal.note_child-requires
note_child-requires c =
    let a = c.args in
    omega (arith, c.requires, fields-below a.language a.table.now a.n c.requires.1 c.requires.0.0 c.requires.0.1)

pub note_child-requires-2 : goal.note_child-requires-2
note_child-requires-2 c =
    let a = c.args in
    omega (arith, c.requires, fields-below a.language a.table.now a.n c.requires.1 c.requires.0.0 c.requires.0.1)

pub note_child-requires-3 : goal.note_child-requires-3
note_child-requires-3 c =
    let a = c.args in
    let third = c.third_child.ensures ∙ (λ i. third_child (c.kind.ensures i) (c.child_c.ensures i)) in
    omega (arith, c.requires, third, fields-below a.language a.table.now a.n c.requires.1 c.requires.0.0 c.requires.0.1)

pub returns : goal.returns
returns c =
    let a = c.args in
    let third = c.third_child.ensures ∙ (λ i. third_child (c.kind.ensures i) (c.child_c.ensures i)) in
    let first = c.note_child.ensures ∙ (λ i. note_at a.scope (c.child_a.ensures i) a.notes.now) in
    let second = c.note_child-2.ensures ∙ (λ i. note_at a.scope (c.child_b.ensures i) (first i)) in
    let all = c.note_child-3.ensures ∙ (λ i. note_at a.scope (third i) (second i)) in
    subst (λ (m : List ℕ). Noted a.language a.table.now a.n a.scope a.notes.now m) (sym all)
    (noted-three a.language a.table.now a.n
    (no-fault a.language a.table.now c.requires.1 a.n c.requires.0.0 c.requires.0.1) a.scope a.notes.now)
