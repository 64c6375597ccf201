-- The calls' requirements hold by what stands at the record, and each arm gives what its calls gave.
use Rattle.std.proofs.Common.{ℕ, refl, sym, ap, ◌∙◌, arith}
use lib.Dec.{eqb}
use Rattle.rules.specs.Kinds.{predicate}
use Rattle.rules.specs.Nodes.{operator_of}
use Rattle.rules.specs.Layout.{memory_of}
use Rattle.evaluation.specs.State.{variables_of}
use Rattle.evaluation_predicates.proofs.Arms.{within, valid-below, valid-arm, initialised-below, initialised-arm}
use Rattle.evaluation_predicates.proofs.Arms.{compared-below, compared-arm, negated-below, negated-arm}
use Rattle.evaluation_predicates.proofs.Arms.{is-joined, predicate_at, joined-arm}
use Rattle.evaluation_predicates.proofs.+evaluate_predicate.Goals as goal

pub kind-k-requires : goal.kind-k-requires
kind-k-requires t c = within c.args.table.now c.args.n predicate c.requires

pub child_a-a-requires : goal.child_a-a-requires
child_a-a-requires t c = within c.args.table.now c.args.n predicate c.requires

pub child_b-b-requires : goal.child_b-b-requires
child_b-b-requires t c = within c.args.table.now c.args.n predicate c.requires

pub evaluate_term-x-requires : goal.evaluate_term-x-requires
evaluate_term-x-requires t c =
    rw c.child_a-a.ensures
    (valid-below c.args.table.now c.args.n c.requires (sym c.kind-k.ensures ∙ c.in-30.is)).2

pub evaluate_term-x-requires-in-31 : goal.evaluate_term-x-requires-in-31
evaluate_term-x-requires-in-31 t c =
    rw c.child_a-a.ensures
    (initialised-below c.args.table.now c.args.n c.requires (sym c.kind-k.ensures ∙ c.in-31.is)).2

pub mark-requires : goal.mark-requires
mark-requires t c = within c.args.table.now c.args.n predicate c.requires

pub evaluate_term-x-requires-in-32 : goal.evaluate_term-x-requires-in-32
evaluate_term-x-requires-in-32 t c =
    rw c.child_a-a.ensures
    (compared-below c.args.table.now c.args.n c.requires (sym c.kind-k.ensures ∙ c.in-32.is)).0.2

pub evaluate_term-y-requires : goal.evaluate_term-y-requires
evaluate_term-y-requires t c =
    rw c.child_b-b.ensures
    (compared-below c.args.table.now c.args.n c.requires (sym c.kind-k.ensures ∙ c.in-32.is)).1.2

pub evaluate_predicate-requires : goal.evaluate_predicate-requires
evaluate_predicate-requires t c =
    let l = negated-below c.args.table.now c.args.n c.requires (sym c.kind-k.ensures ∙ c.in-33.is) in
    rw c.child_a-a.ensures (omega arith, l.2)

pub evaluate_predicate-x-requires : goal.evaluate_predicate-x-requires
evaluate_predicate-x-requires t c =
    let a = c.args in
    let e = c.kind-k.ensures in
    let l =
    (is-joined a.table.now (variables_of a.variables.now) (memory_of a.mem.now) a.n c.requires
    (λ k. omega arith) (λ k. omega arith) (λ k. omega arith) (λ k. omega arith)).a in
    rw c.child_a-a.ensures (omega arith, l.2)

pub evaluate_predicate-y-requires : goal.evaluate_predicate-y-requires
evaluate_predicate-y-requires t c =
    let a = c.args in
    let e = c.kind-k.ensures in
    let l =
    (is-joined a.table.now (variables_of a.variables.now) (memory_of a.mem.now) a.n c.requires
    (λ k. omega arith) (λ k. omega arith) (λ k. omega arith) (λ k. omega arith)).b in
    rw c.child_b-b.ensures (omega arith, l.2)

pub returns-in-30 : goal.returns-in-30
returns-in-30 t c =
    let a = c.args in
    valid-arm a.table.now (variables_of a.variables.now) (memory_of a.mem.now) a.n c.requires
    (sym c.kind-k.ensures ∙ c.in-30.is) c.child_a-a.ensures c.evaluate_term-x.ensures c.ask.ensures

pub returns-in-31 : goal.returns-in-31
returns-in-31 t c =
    let a = c.args in
    initialised-arm a.table.now (variables_of a.variables.now) (memory_of a.mem.now) a.n c.requires
    (sym c.kind-k.ensures ∙ c.in-31.is) c.child_a-a.ensures c.evaluate_term-x-in-31.ensures c.ask-in-31.ensures

pub returns-in-32 : goal.returns-in-32
returns-in-32 t c =
    let a = c.args in
    compared-arm a.table.now (variables_of a.variables.now) (memory_of a.mem.now) a.n c.requires
    (sym c.kind-k.ensures ∙ c.in-32.is) (c.from-operator.ensures ∙ ap operator_of c.mark.ensures) c.child_a-a.ensures c.evaluate_term-x-in-32.ensures
    c.child_b-b.ensures c.evaluate_term-y.ensures (c.restate.ensures ∙ c.combine.ensures)

pub returns-in-33 : goal.returns-in-33
returns-in-33 t c =
    let a = c.args in
    negated-arm a.table.now (variables_of a.variables.now) (memory_of a.mem.now) a.n c.requires
    (sym c.kind-k.ensures ∙ c.in-33.is) c.child_a-a.ensures c.evaluate_predicate.ensures c.oppose.ensures

pub returns-in-Some : goal.returns-in-Some
returns-in-Some t c =
    let a = c.args in
    let e = c.kind-k.ensures in
    let h = is-joined a.table.now (variables_of a.variables.now) (memory_of a.mem.now) a.n c.requires
    (λ k. omega arith) (λ k. omega arith) (λ k. omega arith) (λ k. omega arith) in
    joined-arm a.table.now (variables_of a.variables.now) (memory_of a.mem.now) a.n h
    c.child_a-a.ensures c.evaluate_predicate-x.ensures refl
    (ap (λ (k : ℕ). eqb k 35) c.kind-k.ensures) (sym c.in-Some.is ∙ c.join.ensures)

pub returns-in_default-join : goal.returns-in_default-join
returns-in_default-join t c =
    let a = c.args in
    let ρ = variables_of a.variables.now in
    let m = memory_of a.mem.now in
    let e = c.kind-k.ensures in
    let h = is-joined a.table.now ρ m a.n c.requires
    (λ k. omega arith) (λ k. omega arith) (λ k. omega arith) (λ k. omega arith) in
    let b = ◌∙◌ {b = predicate_at a.table.now ρ m c.child_b-b.result} c.evaluate_predicate-y.ensures
    (ap (predicate_at a.table.now ρ m) c.child_b-b.ensures) in
    joined-arm a.table.now ρ m a.n h c.child_a-a.ensures c.evaluate_predicate-x.ensures
    (◌∙◌ {b = c.evaluate_predicate-y.result} c.restate-in_default.ensures b)
    (ap (λ (k : ℕ). eqb k 35) c.kind-k.ensures) (sym c.in_default-join.is ∙ c.join.ensures)
