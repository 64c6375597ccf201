-- The members ask of one another what stands in the table.
use Rattle.std.proofs.Common.{◌≡◌, ℕ, List, ◌-◌, ◌<◌, ◌≤◌, sym, ap, ◌∙◌, length, set, arith, rules}
use Rattle.std.proofs.lemmas.Result.{err_from_is_err_and}
use Rattle.std.specs.Prelude.{Ok}
use Rattle.rules.specs.Records.{kind_of, mark_of, child_a}
use Rattle.rules.specs.Evaluation.{extend}
use Rattle.evaluation.specs.State.{variables_of}
use Rattle.run_changes.proofs.ChangeLaws.{let-block}
use Rattle.run_children.specs.Children.{first_of}
use Rattle.run_children.proofs.Sequences.{sequence-first}
use Rattle.run_endings.specs.Ending.{Ended}
use Rattle.run_variables.proofs.VariableLaws.{variables-set}
use Rattle.watched_statements.specs.Watching.{Lent, Runs}
use Rattle.watched_statements.proofs.Laws.{fuel-left}
use Rattle.watched_statements.proofs.ReadyLaws.{ready-within, branch-parts, ready-then, ready-else, while-parts}
use Rattle.watched_statements.proofs.ReadyLaws.{ready-turn, ready-inside, ready-run-first}
use Rattle.watched_statements.proofs.ReadyLaws.{run-first-within, run-first-smaller}
use Rattle.watched_runs.proofs.MemberLaws.{left-falls, left-goes, left-stops, branch-then, branch-else, branch-stops}
use Rattle.watched_runs.proofs.MemberLaws.{turn-goes, turn-stays, turn-ends, turn-fails, turn-out, let-made, let-unmade}
use Rattle.watched_runs.proofs.MemberLaws.{inside-block, inside-ends, inside-stays}
use Rattle.watched_runs.proofs.+run.Goals as goal

pub branch-child_b-then-requires : goal.branch-child_b-then-requires
branch-child_b-then-requires t c = ready-within c.requires.0

pub branch-child_c-other-requires : goal.branch-child_c-other-requires
branch-child_c-other-requires t c = ready-within c.requires.0

pub branch-run-requires : goal.branch-run-requires
branch-run-requires t c =
    let h = c.requires in
    rw c.child_b-then.ensures (omega (arith, (branch-parts h.0 h.1).0.1), (ready-then h.0 h.1, h.2))

pub branch-run-requires-in-Ok-false : goal.branch-run-requires-in-Ok-false
branch-run-requires-in-Ok-false t c =
    let h = c.requires in
    rw c.child_c-other.ensures (omega (arith, (branch-parts h.0 h.1).1.1), (ready-else h.0 h.1, h.2))

pub branch-returns-in-Ok-true-clause-outcome : goal.branch-returns-in-Ok-true-clause-outcome
branch-returns-in-Ok-true-clause-outcome t c =
    branch-then _ c.requires.0 c.requires.1 _ (sym c.test.ensures ∙ c.in-Ok-true.is ∙ ap Ok c.in-Ok-true.field-0-test)
    (rw c.child_b-then.ensures at c.run.ensures.outcome)

pub branch-returns-in-Ok-false-clause-outcome : goal.branch-returns-in-Ok-false-clause-outcome
branch-returns-in-Ok-false-clause-outcome t c =
    branch-else _ c.requires.0 c.requires.1 _ (sym c.test.ensures ∙ c.in-Ok-false.is ∙ ap Ok c.in-Ok-false.field-0-test)
    (rw c.child_c-other.ensures at c.run-in-Ok-false.ensures.outcome)

pub branch-returns-in-Err-clause-outcome : goal.branch-returns-in-Err-clause-outcome
branch-returns-in-Err-clause-outcome t c =
    rw c.statement_of.ensures
    (branch-stops _ c.requires.0 c.requires.1 _ _ _ (sym c.test.ensures ∙ c.in-Err.is))

pub enclose-run_inside-requires : goal.enclose-run_inside-requires
enclose-run_inside-requires t c =
    let h = c.requires in
    let w = c.make.ensures in (
      omega arith,
      (
        ready-inside h.0 h.1,
        record { counted = w.counts; owned = h.2.owned },
        let-block h.2.counted.invariant w.memory (sym c.in-Ok.is ∙ w.answer),
      ),
    )

pub enclose-returns-in-Ok-clause-outcome : goal.enclose-returns-in-Ok-clause-outcome
enclose-returns-in-Ok-clause-outcome t c =
    let w = c.make.ensures in
    let-made _ c.requires.0 _ c.requires.1 _ w.memory (sym c.in-Ok.is ∙ w.answer) c.run_inside.ensures.outcome

pub enclose-returns-in-Err-clause-outcome : goal.enclose-returns-in-Err-clause-outcome
enclose-returns-in-Err-clause-outcome t c =
    let w = c.make.ensures in
    rw c.statement_of.ensures
    (let-unmade _ c.requires.0 _ c.requires.1 _ w.memory _ (sym c.in-Err.is ∙ w.answer))

pub repeat-child_b-body-requires : goal.repeat-child_b-body-requires
repeat-child_b-body-requires t c = ready-within c.requires.0

pub repeat-test_a-requires : goal.repeat-test_a-requires
repeat-test_a-requires t c = (ready-within c.requires.0, (while-parts c.requires.0 c.requires.1).0.2)

pub repeat-run-requires : goal.repeat-run-requires
repeat-run-requires t c =
    let h = c.requires in
    rw c.child_b-body.ensures
    (omega (arith, (while-parts h.0 h.1).1.1), (ready-turn h.0 h.1, c.loop-left.invariant.beside))

pub repeat-returns-in_err-left-in-Ok-true-clause-outcome : goal.repeat-returns-in_err-left-in-Ok-true-clause-outcome
repeat-returns-in_err-left-in-Ok-true-clause-outcome t c =
    let p = err_from_is_err_and c.from_residual.result c.from_residual.ensures.1 in
    let q = sym c.test_a.ensures ∙ c.in-Ok-true.is ∙ ap Ok c.in-Ok-true.field-0-test in
    rw (p.1, p.2)
    (c.loop-left.invariant.remaining.ends
    (turn-stays _ c.requires.0 c.requires.1 _ (omega arith) q
    (rw c.child_b-body.ensures at c.in_err-left-in-Ok-true.ensures.outcome)))

pub repeat-loop-left-smaller : goal.repeat-loop-left-smaller
repeat-loop-left-smaller t c =
    let e : c.in_ok-left-in-Ok-true.left ≤ c.loop-left.left - 1 =
    fuel-left _ _ _ c.in_ok-left-in-Ok-true.ensures.outcome in
    omega arith

pub repeat-loop-left-preserved : goal.repeat-loop-left-preserved
repeat-loop-left-preserved t c =
    let h = c.requires in
    let q = sym c.test_a.ensures ∙ c.in-Ok-true.is ∙ ap Ok c.in-Ok-true.field-0-test in
    let w = rw c.child_b-body.ensures at c.in_ok-left-in-Ok-true.ensures.outcome in
    record {
      remaining = record {
        ready = h.0;
        within = omega arith;
        ends = λ v. c.loop-left.invariant.remaining.ends (turn-goes _ h.0 h.1 _ (omega arith) q w v);
      };
      beside = c.run.ensures.beside;
    }

pub repeat-returns-in-Ok-false-clause-outcome : goal.repeat-returns-in-Ok-false-clause-outcome
repeat-returns-in-Ok-false-clause-outcome t c =
    c.loop-left.invariant.remaining.ends
    (turn-ends _ c.requires.0 c.requires.1 _ _ (omega arith)
    (sym c.test_a.ensures ∙ c.in-Ok-false.is ∙ ap Ok c.in-Ok-false.field-0-test))

pub repeat-returns-in-Err-clause-outcome : goal.repeat-returns-in-Err-clause-outcome
repeat-returns-in-Err-clause-outcome t c =
    rw c.statement_of.ensures
    (c.loop-left.invariant.remaining.ends
    (turn-fails _ c.requires.0 c.requires.1 _ _ (omega arith) _ (sym c.test_a.ensures ∙ c.in-Err.is)))

pub repeat-returns-clause-outcome : goal.repeat-returns-clause-outcome
repeat-returns-clause-outcome t c =
    rw c.statement_of-2.ensures
    (c.loop-left.invariant.remaining.ends (turn-out _ c.requires.0 c.requires.1 _ _ (omega arith)))

pub run-first_of-first-requires : goal.run-first_of-first-requires
run-first_of-first-requires t c = let e = rw c.in-Some.is at c.loop-next.invariant.remaining in ready-within e.ready

pub run-rest_of-next-requires : goal.run-rest_of-next-requires
run-rest_of-next-requires t c = let e = rw c.in-Some.is at c.loop-next.invariant.remaining in ready-within e.ready

pub run-kind-requires : goal.run-kind-requires
run-kind-requires t c =
    let e = rw c.in-Some.is at c.loop-next.invariant.remaining in
    rw c.first_of-first.ensures (ready-within (ready-run-first e.ready))

pub run-run-requires : goal.run-run-requires
run-run-requires t c =
    let T = c.args.table.now in
    let e = rw c.in-Some.is at c.loop-next.invariant.remaining in
    let k : kind_of T (first_of T c.in-Some.at) ≡ 44 = cc in
    rw c.first_of-first.ensures (
      omega (arith, run-first-smaller e.ready (sequence-first T c.in-Some.at k), e.within),
      (ready-run-first e.ready, c.loop-next.invariant.beside),
    )

pub run-branch-table-requires : goal.run-branch-table-requires
run-branch-table-requires t c =
    let e = rw c.in-Some.is at c.loop-next.invariant.remaining in
    let k = c.kind.ensures in (
      omega (arith, run-first-within e.ready, e.within, c.first_of-first.ensures),
      (rw c.first_of-first.ensures (ready-run-first e.ready), search rules, c.loop-next.invariant.beside),
    )

pub run-repeat-requires : goal.run-repeat-requires
run-repeat-requires t c =
    let e = rw c.in-Some.is at c.loop-next.invariant.remaining in
    let k = c.kind.ensures in (
      omega (arith, run-first-within e.ready, e.within, c.first_of-first.ensures),
      (rw c.first_of-first.ensures (ready-run-first e.ready), search rules, c.loop-next.invariant.beside),
    )

pub run-enclose-requires : goal.run-enclose-requires
run-enclose-requires t c =
    let e = rw c.in-Some.is at c.loop-next.invariant.remaining in
    let k = c.kind.ensures in (
      omega (arith, run-first-within e.ready, e.within, c.first_of-first.ensures),
      (rw c.first_of-first.ensures (ready-run-first e.ready), search rules, c.loop-next.invariant.beside),
    )

pub run-step-requires : goal.run-step-requires
run-step-requires t c =
    let e = rw c.in-Some.is at c.loop-next.invariant.remaining in
    let k = c.kind.ensures in (
      rw c.first_of-first.ensures (ready-run-first e.ready),
      ((λ z. omega arith), (λ z. grind arith), (λ z. omega arith), (λ z. omega arith), (λ z. grind arith)),
      c.loop-next.invariant.beside,
    )

-- whatever its first part is, the measure falls where it finished, and the invariant holds of what follows
pub run-loop-next-smaller-in_ok-left-in-44 : goal.run-loop-next-smaller-in_ok-left-in-44
run-loop-next-smaller-in_ok-left-in-44 t c =
    let e = rw c.in-Some.is at c.loop-next.invariant.remaining in
    left-falls e c.first_of-first.ensures c.in-Some.is c.rest_of-next.ensures c.in_ok-left-in-44.ensures.outcome

pub run-loop-next-preserved-in_ok-left-in-44 : goal.run-loop-next-preserved-in_ok-left-in-44
run-loop-next-preserved-in_ok-left-in-44 t c =
    let e = rw c.in-Some.is at c.loop-next.invariant.remaining in
    record {
      remaining = left-goes e c.first_of-first.ensures c.rest_of-next.ensures c.in_ok-left-in-44.ensures.outcome;
      beside = c.run.ensures.beside;
    }

pub run-returns-in_err-left-in-44-clause-outcome : goal.run-returns-in_err-left-in-44-clause-outcome
run-returns-in_err-left-in-44-clause-outcome t c =
    let e = rw c.in-Some.is at c.loop-next.invariant.remaining in
    left-stops e c.first_of-first.ensures _ c.from_residual.ensures.1 c.in_err-left-in-44.ensures.outcome

pub run-loop-next-smaller-in_ok-left-in-45 : goal.run-loop-next-smaller-in_ok-left-in-45
run-loop-next-smaller-in_ok-left-in-45 t c =
    let e = rw c.in-Some.is at c.loop-next.invariant.remaining in
    left-falls e c.first_of-first.ensures c.in-Some.is c.rest_of-next.ensures c.in_ok-left-in-45.ensures.outcome

pub run-loop-next-preserved-in_ok-left-in-45 : goal.run-loop-next-preserved-in_ok-left-in-45
run-loop-next-preserved-in_ok-left-in-45 t c =
    let e = rw c.in-Some.is at c.loop-next.invariant.remaining in
    record {
      remaining = left-goes e c.first_of-first.ensures c.rest_of-next.ensures c.in_ok-left-in-45.ensures.outcome;
      beside = c.branch-table.ensures.beside;
    }

pub run-returns-in_err-left-in-45-clause-outcome : goal.run-returns-in_err-left-in-45-clause-outcome
run-returns-in_err-left-in-45-clause-outcome t c =
    let e = rw c.in-Some.is at c.loop-next.invariant.remaining in
    left-stops e c.first_of-first.ensures _ c.from_residual-in_err-left-in-45.ensures.1 c.in_err-left-in-45.ensures.outcome

pub run-loop-next-smaller-in_ok-left-in-46 : goal.run-loop-next-smaller-in_ok-left-in-46
run-loop-next-smaller-in_ok-left-in-46 t c =
    let e = rw c.in-Some.is at c.loop-next.invariant.remaining in
    left-falls e c.first_of-first.ensures c.in-Some.is c.rest_of-next.ensures c.in_ok-left-in-46.ensures.outcome

pub run-loop-next-preserved-in_ok-left-in-46 : goal.run-loop-next-preserved-in_ok-left-in-46
run-loop-next-preserved-in_ok-left-in-46 t c =
    let e = rw c.in-Some.is at c.loop-next.invariant.remaining in
    record {
      remaining = left-goes e c.first_of-first.ensures c.rest_of-next.ensures c.in_ok-left-in-46.ensures.outcome;
      beside = c.repeat.ensures.beside;
    }

pub run-returns-in_err-left-in-46-clause-outcome : goal.run-returns-in_err-left-in-46-clause-outcome
run-returns-in_err-left-in-46-clause-outcome t c =
    let e = rw c.in-Some.is at c.loop-next.invariant.remaining in
    left-stops e c.first_of-first.ensures _ c.from_residual-in_err-left-in-46.ensures.1 c.in_err-left-in-46.ensures.outcome

pub run-loop-next-smaller-in_ok-left-in-47 : goal.run-loop-next-smaller-in_ok-left-in-47
run-loop-next-smaller-in_ok-left-in-47 t c =
    let e = rw c.in-Some.is at c.loop-next.invariant.remaining in
    left-falls e c.first_of-first.ensures c.in-Some.is c.rest_of-next.ensures c.in_ok-left-in-47.ensures.outcome

pub run-loop-next-preserved-in_ok-left-in-47 : goal.run-loop-next-preserved-in_ok-left-in-47
run-loop-next-preserved-in_ok-left-in-47 t c =
    let e = rw c.in-Some.is at c.loop-next.invariant.remaining in
    record {
      remaining = left-goes e c.first_of-first.ensures c.rest_of-next.ensures c.in_ok-left-in-47.ensures.outcome;
      beside = c.enclose.ensures.beside;
    }

pub run-returns-in_err-left-in-47-clause-outcome : goal.run-returns-in_err-left-in-47-clause-outcome
run-returns-in_err-left-in-47-clause-outcome t c =
    let e = rw c.in-Some.is at c.loop-next.invariant.remaining in
    left-stops e c.first_of-first.ensures _ c.from_residual-in_err-left-in-47.ensures.1 c.in_err-left-in-47.ensures.outcome

pub run-loop-next-smaller : goal.run-loop-next-smaller
run-loop-next-smaller t c =
    let e = rw c.in-Some.is at c.loop-next.invariant.remaining in
    left-falls e c.first_of-first.ensures c.in-Some.is c.rest_of-next.ensures c.in_ok-left-in_default-kind.ensures.outcome

pub run-loop-next-preserved : goal.run-loop-next-preserved
run-loop-next-preserved t c =
    let e = rw c.in-Some.is at c.loop-next.invariant.remaining in
    record {
      remaining = left-goes e c.first_of-first.ensures c.rest_of-next.ensures c.in_ok-left-in_default-kind.ensures.outcome;
      beside = c.step.ensures.beside;
    }

pub run-returns-in_err-left-in_default-kind-clause-outcome : goal.run-returns-in_err-left-in_default-kind-clause-outcome
run-returns-in_err-left-in_default-kind-clause-outcome t c =
    let e = rw c.in-Some.is at c.loop-next.invariant.remaining in
    left-stops e c.first_of-first.ensures _ c.from_residual-in_err-left-in_default-kind.ensures.1 c.in_err-left-in_default-kind.ensures.outcome

-- of a let the child ran, its variable being block k
child : (T : List ℕ) (n k b v : ℕ) (vs : List ℕ) (f : ℕ) {r : Ended} {x y : Lent} → length vs ≡ 64 → b ≡ child_a T n
    → v ≡ mark_of T n → mark_of T n < 64 → Runs T b (variables_of (set vs v k)) f r x y
    → Runs T (child_a T n) (extend (variables_of vs) (mark_of T n) k) f r x y
child T n k b v vs f g i j h w = rw (i, variables-set vs v k (omega (arith, g, j, h)), j) at w

-- whatever the variables are with which the child ran
pub run_inside-end-requires : goal.run_inside-end-requires
run_inside-end-requires t c =
    let h = c.requires in
    let w = c.run.ensures in
    (w.beside.counted, inside-block _ _ c.args.name _ w.outcome h.1.counted.invariant h.2)

pub run_inside-returns-in_err-left-clause-outcome : goal.run_inside-returns-in_err-left-clause-outcome
run_inside-returns-in_err-left-clause-outcome t c =
    let a = c.args in
    let g : length a.variables ≡ 64 = search rules in
    let p = err_from_is_err_and c.from_residual.result c.from_residual.ensures.1 in
    rw (p.1, p.2)
    (inside-stays a.table.now a.n (variables_of a.variables) a.name _ a.fuel
    (child a.table.now a.n a.name _ _ a.variables a.fuel g c.child_a-body.ensures c.mark-variable.ensures
    c.requires.0.mark
    c.in_err-left.ensures.outcome))

pub run_inside-returns-clause-outcome : goal.run_inside-returns-clause-outcome
run_inside-returns-clause-outcome t c =
    let a = c.args in
    let g : length a.variables ≡ 64 = search rules in
    inside-ends a.table.now a.n (variables_of a.variables) a.name _ a.fuel
    (child a.table.now a.n a.name _ _ a.variables a.fuel g c.child_a-body.ensures c.mark-variable.ensures
    c.requires.0.mark
    c.in_ok-left.ensures.outcome)
    c.end.ensures.memory
