-- A child stands before the record, so there is a level for it; and it is given that of its field.
use Rattle.std.proofs.Common.{◌≡◌, true, List, ℕ, sym, ap, subst, ◌∙◌, arith}
use Rattle.rules.specs.Records.{kind_of}
use Rattle.rules.specs.Kinds.{source}
use Rattle.rules.specs.Checker.{level_below, is_term_or_predicate}
use Rattle.checker.specs.Notes.{put_at}
use Rattle.checker.specs.Scopes.{Given, child_level}
use Rattle.checker.proofs.GivenLaws.{levels-below, levels-given}
use Rattle.checker.proofs.descent.pass_level.Goals as goal
use Rattle.checker.proofs.descent.pass_level.Goals.{Then-is_term_or_predicate}

is : (c : Then-is_term_or_predicate) → is_term_or_predicate (kind_of c.args.table.now c.args.n) ≡ true
is c = sym (ap is_term_or_predicate c.kind-kind.ensures) ∙ sym c.if-is_term_or_predicate.ensures

pub put_level-requires : goal.put_level-requires
put_level-requires c =
    let a = c.args in
    let h = is (goal.at.put_level-requires c).Then-is_term_or_predicate in
    omega (arith, c.requires, levels-below a.table.now c.requires.1 a.n c.requires.0.0 c.requires.0.1 h)

pub put_level-requires-then-is_term_or_predicate : goal.put_level-requires-then-is_term_or_predicate
put_level-requires-then-is_term_or_predicate c =
    let a = c.args in
    let h = is (goal.at.put_level-requires-then-is_term_or_predicate c).Then-is_term_or_predicate in
    omega (arith, c.requires, levels-below a.table.now c.requires.1 a.n c.requires.0.0 c.requires.0.1 h)

pub put_level-requires-then-is_term_or_predicate-2 : goal.put_level-requires-then-is_term_or_predicate-2
put_level-requires-then-is_term_or_predicate-2 c =
    let a = c.args in
    let h = is (goal.at.put_level-requires-then-is_term_or_predicate-2 c).Then-is_term_or_predicate in
    omega (arith, c.requires, levels-below a.table.now c.requires.1 a.n c.requires.0.0 c.requires.0.1 h)

pub returns-then-is_term_or_predicate : goal.returns-then-is_term_or_predicate
returns-then-is_term_or_predicate c =
    let a = c.args in
    let h = is (goal.at.returns-then-is_term_or_predicate c).Then-is_term_or_predicate in
    let k = c.kind-kind.ensures in
    let u = c.level_below.ensures ∙ ap (λ (k : ℕ). level_below k 0 a.level) k in
    let v = c.level_below-then-is_term_or_predicate.ensures ∙ ap (λ (k : ℕ). level_below k 1 a.level) k in
    let w = c.level_below-then-is_term_or_predicate-2.ensures ∙ ap (λ (k : ℕ). level_below k 2 a.level) k in
    let first = c.put_level.ensures ∙ (λ i. put_at (c.child_a.ensures i) (u i) a.levels.now) in
    let second = c.put_level-then-is_term_or_predicate.ensures ∙ (λ i. put_at (c.child_b.ensures i) (v i) (first i)) in
    let all = c.put_level-then-is_term_or_predicate-2.ensures ∙ (λ i. put_at (c.child_c.ensures i) (w i) (second i)) in
    subst (λ (m : List ℕ). Given source a.table.now a.n (child_level a.table.now a.n a.level) a.levels.now m) (sym all)
    (levels-given a.table.now c.requires.1 a.n c.requires.0.0 c.requires.0.1 h a.level a.levels.now)
