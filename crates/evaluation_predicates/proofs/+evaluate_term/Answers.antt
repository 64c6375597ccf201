-- The calls' requirements hold by what stands at the record, and each arm gives what its calls gave.
use Rattle.std.proofs.Common.{ℕ, ◌-◌, sym, ap, ◌∙◌, arith}
use Rattle.rules.specs.Kinds.{term}
use Rattle.rules.specs.Nodes.{operator_of, query_of}
use Rattle.rules.specs.Layout.{memory_of}
use Rattle.evaluation.specs.State.{variables_of}
use Rattle.evaluation_temporaries.specs.Bytes.{temporaries_of}
use Rattle.evaluation_predicates.proofs.Arms.{within, expression-below, value-arm, is-asked, asked-arm}
use Rattle.evaluation_predicates.proofs.Arms.{combined-below, combined-arm}
use Rattle.evaluation_predicates.proofs.+evaluate_term.Goals as goal

pub kind-k-requires : goal.kind-k-requires
kind-k-requires t c = within c.args.table.now c.args.n term c.requires

pub child_a-a-requires : goal.child_a-a-requires
child_a-a-requires t c = within c.args.table.now c.args.n term c.requires

pub evaluate_operand-requires : goal.evaluate_operand-requires
evaluate_operand-requires t c =
    rw c.child_a-a.ensures
    (expression-below c.args.table.now c.args.n c.requires (sym c.kind-k.ensures ∙ c.in-20.is))

pub mark-requires : goal.mark-requires
mark-requires t c = within c.args.table.now c.args.n term c.requires

pub child_b-b-requires : goal.child_b-b-requires
child_b-b-requires t c = within c.args.table.now c.args.n term c.requires

pub evaluate_term-x-requires : goal.evaluate_term-x-requires
evaluate_term-x-requires t c =
    let l = (combined-below c.args.table.now c.args.n c.requires (sym c.kind-k.ensures ∙ c.in-24.is)).0 in
    rw c.child_a-a.ensures (omega arith, l.2)

pub evaluate_term-y-requires : goal.evaluate_term-y-requires
evaluate_term-y-requires t c =
    let l = (combined-below c.args.table.now c.args.n c.requires (sym c.kind-k.ensures ∙ c.in-24.is)).1 in
    rw c.child_b-b.ensures (omega arith, l.2)

pub evaluate_term-x-requires-in_default : goal.evaluate_term-x-requires-in_default
evaluate_term-x-requires-in_default t c =
    let a = c.args in
    let e = c.kind-k.ensures in
    let l =
    (is-asked a.table.now (variables_of a.variables.now) (memory_of a.mem.now) a.n c.requires
    (λ k. omega arith) (λ k. omega arith)).a in
    rw c.child_a-a.ensures (omega arith, l.2)

pub overflow_sub-k : goal.overflow_sub-k
overflow_sub-k t c =
    let a = c.args in
    let e = c.kind-k.ensures in
    let h = is-asked a.table.now (variables_of a.variables.now) (memory_of a.mem.now) a.n c.requires
    (λ k. omega arith) (λ k. omega arith) in
    omega (arith, h.low, e)

pub returns-in-20 : goal.returns-in-20
returns-in-20 t c =
    let a = c.args in
    value-arm a.table.now (variables_of a.variables.now) (memory_of a.mem.now) a.n (temporaries_of a.temporaries.now)
    c.requires (sym c.kind-k.ensures ∙ c.in-20.is) c.child_a-a.ensures c.evaluate_operand.ensures

pub returns-in-24 : goal.returns-in-24
returns-in-24 t c =
    let a = c.args in
    combined-arm a.table.now (variables_of a.variables.now) (memory_of a.mem.now) a.n c.requires
    (sym c.kind-k.ensures ∙ c.in-24.is) (c.from-operator.ensures ∙ ap operator_of c.mark.ensures) c.child_a-a.ensures c.evaluate_term-x.ensures
    c.child_b-b.ensures c.evaluate_term-y.ensures (c.restate.ensures ∙ c.combine.ensures)

pub returns-in_default : goal.returns-in_default
returns-in_default t c =
    let a = c.args in
    let e = c.kind-k.ensures in
    let h = is-asked a.table.now (variables_of a.variables.now) (memory_of a.mem.now) a.n c.requires
    (λ k. omega arith) (λ k. omega arith) in
    asked-arm a.table.now (variables_of a.variables.now) (memory_of a.mem.now) a.n h c.child_a-a.ensures
    c.evaluate_term-x-in_default.ensures (c.from.ensures ∙ ap (λ (k : ℕ). query_of (k - 18)) c.kind-k.ensures)
    (c.restate-in_default.ensures ∙ c.ask.ensures)
