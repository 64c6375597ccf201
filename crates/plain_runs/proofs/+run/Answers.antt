-- What is left of a statement as it runs; the members ask of one another what stands in the table.
use Rattle.std.proofs.Common.{◌≡◌, ◌≢◌, ℕ, List, ◌<◌, refl, sym, ◌∙◌, subst, length, set, arith, rules}
use Rattle.std.specs.Prelude.{Some, Ok, Err, true, false}
use Rattle.rules.specs.Records.{kind_of, mark_of, child_a}
use Rattle.rules.specs.Nodes.{statement_at}
use Rattle.rules.specs.Memory.{Memory, stopped, end_block}
use Rattle.rules.specs.Flow.{finished, into, next}
use Rattle.rules.specs.Plain as plain
use Rattle.rules.specs.declared.{Stop.Stop}
use Rattle.rules.proofs.Runs.PlainArms.{statement-kinds, run-skip}
use Rattle.evaluation.specs.State.{variables_of}
use Rattle.run_changes.proofs.ChangeLaws.{does-stop, let-block}
use Rattle.run_children.specs.Children.{first_of}
use Rattle.run_children.proofs.Sequences.{sequence-first}
use Rattle.run_endings.specs.Ending.{after_turn}
use Rattle.run_variables.proofs.VariableLaws.{variables-set}
use Rattle.plain_runs.specs.Running.{enclosed}
use Rattle.plain_runs.proofs.Laws.{ends-is, ends-from, ends-finished, ends-into, ends-then, ends-stopped}
use Rattle.plain_runs.proofs.Laws.{ran-does, ran-exits}
use Rattle.plain_runs.proofs.MemberLaws.{left_ready, left-goes, left-ends, left-stops, branch_by}
use Rattle.plain_runs.proofs.MemberLaws.{turn_by, turn-out, turn-goes, turn-stops, turn-spends, let-made, let-unmade}
use Rattle.plain_runs.proofs.MemberLaws.{does-unmade, inside-block}
use Rattle.plain_runs.proofs.ReadyLaws.{ready-within, branch-parts, ready-then, ready-else, while-parts}
use Rattle.plain_runs.proofs.ReadyLaws.{ready-turn, ready-inside, ready-first, first-up-to, first-below, rest-below}
use Rattle.plain_runs.proofs.ReadyLaws.{left_size}
use Rattle.plain_runs.proofs.+run.Goals as goal

pub branch-test_a-requires : goal.branch-test_a-requires
branch-test_a-requires t c =
    let h = c.requires in
    (ready-within h.0, (branch-parts h.0 h.1).0.2)

pub branch-child_b-b-requires : goal.branch-child_b-b-requires
branch-child_b-b-requires t c = ready-within c.requires.0

pub branch-run-requires : goal.branch-run-requires
branch-run-requires t c =
    let h = c.requires in
    rw c.child_b-b.ensures (omega (arith, (branch-parts h.0 h.1).1.1), (ready-then h.0 h.1, h.2))

pub branch-child_c-c-requires : goal.branch-child_c-c-requires
branch-child_c-c-requires t c = ready-within c.requires.0

pub branch-run-requires-in-Ok-false : goal.branch-run-requires-in-Ok-false
branch-run-requires-in-Ok-false t c =
    let h = c.requires in
    rw c.child_c-c.ensures (omega (arith, (branch-parts h.0 h.1).2.1), (ready-else h.0 h.1, h.2))

pub branch-returns-in-Ok-true-clause-outcome : goal.branch-returns-in-Ok-true-clause-outcome
branch-returns-in-Ok-true-clause-outcome t c =
    let h = c.requires in
    ends-is (branch_by _ h.0 h.1 _ _ (Ok true) (cc c.in-Ok-true.ensures))
    (ends-into 1 _ (rw c.child_b-b.ensures at c.run.ensures.outcome))

pub branch-returns-in-Ok-false-clause-outcome : goal.branch-returns-in-Ok-false-clause-outcome
branch-returns-in-Ok-false-clause-outcome t c =
    let h = c.requires in
    ends-is (branch_by _ h.0 h.1 _ _ (Ok false) (cc c.in-Ok-false.ensures))
    (ends-into 2 _ (rw c.child_c-c.ensures at c.run-in-Ok-false.ensures.outcome))

pub branch-returns-in-Err-clause-outcome : goal.branch-returns-in-Err-clause-outcome
branch-returns-in-Err-clause-outcome t c =
    let h = c.requires in
    ran-does c.args.n _ c.args.progress.now (stopped c.in-Err.stop _)
    (branch_by _ h.0 h.1 _ _ (Err c.in-Err.stop) c.in-Err.ensures)
    (does-stop c.in-Err.stop c.args.mem.now) c.stop_at.ensures.outcome c.stop_at.ensures.progress

pub enclose-run_inside-requires : goal.enclose-run_inside-requires
enclose-run_inside-requires t c =
    let h = c.requires in
    let w = c.in-Ok.ensures in
    (omega arith, (ready-inside h.0 h.1, w.counts, let-block h.2.invariant w.memory w.answer))

pub enclose-returns-in-Ok-clause-outcome : goal.enclose-returns-in-Ok-clause-outcome
enclose-returns-in-Ok-clause-outcome t c =
    let h = c.requires in
    let w = c.in-Ok.ensures in
    ends-is (let-made _ h.0 h.1 _ _ w.memory w.answer) (ends-from w.memory c.run_inside.ensures.outcome)

pub enclose-returns-in-Err-clause-outcome : goal.enclose-returns-in-Err-clause-outcome
enclose-returns-in-Err-clause-outcome t c =
    let h = c.requires in
    let w = c.in-Err.ensures in
    ran-does c.args.n _ c.args.progress.now (stopped c.in-Err.stop _) (let-unmade _ h.0 h.1 _ _ w.answer)
    (does-unmade _ c.in-Err.stop w.memory w.answer)
    c.stop_at.ensures.outcome c.stop_at.ensures.progress

pub repeat-child_b-b-requires : goal.repeat-child_b-b-requires
repeat-child_b-b-requires t c = ready-within c.requires.0

pub repeat-test_a-requires : goal.repeat-test_a-requires
repeat-test_a-requires t c = (ready-within c.requires.0, (while-parts c.requires.0 c.requires.1).0.2)

pub repeat-run-requires : goal.repeat-run-requires
repeat-run-requires t c =
    let h = c.requires in
    rw c.child_b-b.ensures
    (omega (arith, (while-parts h.0 h.1).1.1), (ready-turn h.0 h.1, c.loop-progress.invariant.counted))

pub repeat-loop-progress-smaller : goal.repeat-loop-progress-smaller
repeat-loop-progress-smaller t c =
    let h = c.requires in
    let i = c.loop-progress in
    turn-spends _ h.0 h.1 i.mem i.progress.fuel (omega arith) (cc c.in-Ok-true.ensures) c.run.new.progress
    (rw (c.child_b-b.ensures, c.take_fuel.ensures) at c.in_ok-run-in-Ok-true.ensures.outcome)

pub repeat-loop-progress-preserved : goal.repeat-loop-progress-preserved
repeat-loop-progress-preserved t c =
    let h = c.requires in
    let i = c.loop-progress in
    let w = rw (c.child_b-b.ensures, c.take_fuel.ensures) at c.in_ok-run-in-Ok-true.ensures.outcome in
    record {
      leads = λ r b v.
          i.invariant.leads r b
          (turn-goes _ h.0 h.1 i.mem i.progress.fuel (omega arith) (cc c.in-Ok-true.ensures) c.run.new.progress w r
          b v);
      counted = c.run.ensures.counts;
    }

pub repeat-returns-in_err-run-in-Ok-true-clause-outcome : goal.repeat-returns-in_err-run-in-Ok-true-clause-outcome
repeat-returns-in_err-run-in-Ok-true-clause-outcome t c =
    let h = c.requires in
    let i = c.loop-progress in
    let w = rw (c.child_b-b.ensures, c.take_fuel.ensures) at c.in_err-run-in-Ok-true.ensures.outcome in
    ran-exits _ c.from_residual.ensures.1
    (i.invariant.leads _ _
    (turn-stops _ h.0 h.1 i.mem i.progress.fuel (omega arith) (cc c.in-Ok-true.ensures) c.run.new.progress w))

pub repeat-returns-in-Ok-false-clause-outcome : goal.repeat-returns-in-Ok-false-clause-outcome
repeat-returns-in-Ok-false-clause-outcome t c =
    let h = c.requires in
    let i = c.loop-progress in
    rw c.take_fuel.ensures
    (i.invariant.leads _ _
    (ends-is (turn_by _ h.0 h.1 _ _ (omega arith) (Ok false) (cc c.in-Ok-false.ensures)) (ends-finished i.mem _)))

pub repeat-returns-in-Err-clause-outcome : goal.repeat-returns-in-Err-clause-outcome
repeat-returns-in-Err-clause-outcome t c =
    let h = c.requires in
    let i = c.loop-progress in
    let k = c.in-Err.stop in
    i.invariant.leads _ _
    (ran-does c.args.n _ (after_turn i.progress) (stopped k _)
    (turn_by _ h.0 h.1 _ _ (omega arith) (Err k) c.in-Err.ensures)
    (does-stop k i.mem) c.stop_at.ensures.outcome (rw c.take_fuel.ensures at c.stop_at.ensures.progress))

pub repeat-returns-clause-outcome : goal.repeat-returns-clause-outcome
repeat-returns-clause-outcome t c =
    let h = c.requires in
    let i = c.loop-progress in
    i.invariant.leads _ _
    (ran-does c.args.n _ i.progress (stopped Stop.NoFuel _) (turn-out _ h.0 h.1 _ _ c.loop-progress-test.false)
    (does-stop Stop.NoFuel i.mem) c.stop_at-2.ensures.outcome c.stop_at-2.ensures.progress)

pub run-first_of-first-requires : goal.run-first_of-first-requires
run-first_of-first-requires t c = ready-within (left_ready c.loop-mem.invariant.left refl).0

pub run-kind-requires : goal.run-kind-requires
run-kind-requires t c =
    rw c.first_of-first.ensures (ready-within (ready-first (left_ready c.loop-mem.invariant.left refl).0))

pub run-run-requires : goal.run-run-requires
run-run-requires t c =
    let i = c.loop-mem.invariant in
    let r = left_ready i.left refl in
    let T = c.args.table.now in
    let m = c.loop-mem.at in
    let q : kind_of T (first_of T m) ≡ 44 = cc in
    rw c.first_of-first.ensures
    (omega (arith, first-below r.0 (sequence-first T m q), r.1), (ready-first r.0, i.counted))

pub run-rest_of-requires : goal.run-rest_of-requires
run-rest_of-requires t c = ready-within (left_ready c.loop-mem.invariant.left refl).0

pub run-loop-mem-smaller-then-kind-eq44 : goal.run-loop-mem-smaller-then-kind-eq44
run-loop-mem-smaller-then-kind-eq44 t c =
    subst (λ x. left_size x < left_size (Some c.loop-mem.at)) (sym c.rest_of.ensures ∙ c.in-Some.is)
    (rest-below (left_ready c.loop-mem.invariant.left refl).0)

pub run-loop-mem-preserved-then-kind-eq44 : goal.run-loop-mem-preserved-then-kind-eq44
run-loop-mem-preserved-then-kind-eq44 t c = record {
  left = left-goes c.loop-mem.invariant.left refl c.first_of-first.ensures c.run.new.progress
      c.in_ok-run.ensures.outcome (sym c.in-Some.is ∙ c.rest_of.ensures);
  counted = c.run.ensures.counts;
}

pub run-returns-in_default-clause-outcome : goal.run-returns-in_default-clause-outcome
run-returns-in_default-clause-outcome t c =
    left-ends c.loop-mem.invariant.left refl c.first_of-first.ensures c.run.new.progress c.rest_of.ensures
    (search rules) (Ok tt) c.in_ok-run.ensures.outcome

pub run-returns-in_err-run-clause-outcome : goal.run-returns-in_err-run-clause-outcome
run-returns-in_err-run-clause-outcome t c =
    ran-exits _ c.from_residual.ensures.1
    (left-stops c.loop-mem.invariant.left refl c.first_of-first.ensures c.run.new.progress
    c.in_err-run.ensures.outcome)

pub run-run_single-outcome-requires : goal.run-run_single-outcome-requires
run-run_single-outcome-requires t c =
    let i = c.loop-mem.invariant in
    let r = left_ready i.left refl in
    let d : kind_of c.args.table.now c.first_of-first.result ≢ 44 = λ e. c.if-kind-eq44.false (c.kind.ensures ∙ e) in (
      rw c.first_of-first.ensures (omega (arith, first-up-to r.0, r.1)),
      (rw c.first_of-first.ensures (ready-first r.0), d, i.counted),
    )

pub run-rest_of-requires-else-kind-eq44 : goal.run-rest_of-requires-else-kind-eq44
run-rest_of-requires-else-kind-eq44 t c = ready-within (left_ready c.loop-mem.invariant.left refl).0

pub run-returns-in_default-rest_of-clause-outcome : goal.run-returns-in_default-rest_of-clause-outcome
run-returns-in_default-rest_of-clause-outcome t c =
    left-ends c.loop-mem.invariant.left refl c.first_of-first.ensures c.run_single-outcome.new.progress
    c.rest_of-else-kind-eq44.ensures (search rules) _ c.run_single-outcome.ensures.outcome

pub run-loop-mem-smaller : goal.run-loop-mem-smaller
run-loop-mem-smaller t c =
    subst (λ x. left_size x < left_size (Some c.loop-mem.at))
    (sym c.rest_of-else-kind-eq44.ensures ∙ c.in-Some-rest_of.is)
    (rest-below (left_ready c.loop-mem.invariant.left refl).0)

pub run-loop-mem-preserved : goal.run-loop-mem-preserved
run-loop-mem-preserved t c = record {
  left = left-goes c.loop-mem.invariant.left refl c.first_of-first.ensures c.run_single-outcome.new.progress
      c.in_ok-outcome.ensures.outcome (sym c.in-Some-rest_of.is ∙ c.rest_of-else-kind-eq44.ensures);
  counted = c.run_single-outcome.ensures.counts;
}

pub run-returns-in_err-outcome-clause-outcome : goal.run-returns-in_err-outcome-clause-outcome
run-returns-in_err-outcome-clause-outcome t c =
    ran-exits _ c.from_residual-in_err-outcome.ensures.1
    (left-stops c.loop-mem.invariant.left refl c.first_of-first.ensures c.run_single-outcome.new.progress
    c.in_err-outcome.ensures.outcome)

pub run_single-kind-requires : goal.run_single-kind-requires
run_single-kind-requires t c = ready-within c.requires.0

-- no other kind is left
pub run_single-assert-requires : goal.run_single-assert-requires
run_single-assert-requires t c =
    let h = c.requires in
    let k = c.kind.ensures in (
      h.0,
      statement-kinds c.args.table.now c.args.n h.0.is (λ e. omega arith) (λ e. omega arith) (λ e. omega arith)
          (λ e. omega arith) h.1 (λ e. omega arith) (λ e. omega arith) (λ e. omega arith),
    )

pub run_single-returns-in-40-clause-outcome : goal.run_single-returns-in-40-clause-outcome
run_single-returns-in-40-clause-outcome t c =
    let a = c.args in
    ends-is (run-skip a.table.now a.n c.requires.0.is _ _ _ (cc)) (ends-finished a.mem.now a.progress.now.fuel)

-- whatever the variables are with which the child ran
pub run_inside-end-requires : goal.run_inside-end-requires
run_inside-end-requires t c =
    let h = c.requires in
    let w = c.run.ensures in
    (w.counts, inside-block _ _ _ w.outcome h.1.invariant h.2)

-- of a let the child runs, its variable being block k
inside : (T : List ℕ) (n k : ℕ) (vs : List ℕ) (m : Memory) (f : ℕ) {x v : ℕ} → length vs ≡ 64 → x ≡ child_a T n
    → v ≡ mark_of T n → mark_of T n < 64
    → enclosed T n (variables_of vs) m f k
    ≡ next (into 0 (plain.run (statement_at T x) (variables_of (set vs v k)) m f))
    (λ m₁ f₁. finished (end_block m₁ k) f₁)
inside T n k vs m f {x} {v} g i j h = rw (i, variables-set vs v k (omega (arith, g, j, h)), j)

pub run_inside-returns-clause-outcome : goal.run_inside-returns-clause-outcome
run_inside-returns-clause-outcome t c =
    let g : length c.args.variables ≡ 64 = search rules in
    ends-is (inside _ _ _ _ _ _ g c.child_a-a.ensures c.mark-v.ensures c.requires.0.mark)
    (ends-then 0 _ c.run.new.progress _ c.in_ok-run.ensures.outcome
    (record { answer = refl; memory = c.end.ensures.memory }))

pub run_inside-returns-in_err-run-clause-outcome : goal.run_inside-returns-in_err-run-clause-outcome
run_inside-returns-in_err-run-clause-outcome t c =
    let g : length c.args.variables ≡ 64 = search rules in
    ran-exits _ c.from_residual.ensures.1
    (ends-is (inside _ _ _ _ _ _ g c.child_a-a.ensures c.mark-v.ensures c.requires.0.mark)
    (ends-stopped 0 _ c.run.new.progress _ _ c.in_err-run.ensures.outcome))
