-- The calls' requirements hold by what stands at the record, and each arm gives what its calls gave.
use Rattle.std.proofs.Common.{◌≡◌, refl, sym, ap, ap₂, ◌∙◌, w64, arith, rules}
use mir.Facts.{to_z-of_z}
use Rattle.rules.specs.Records.{mark_of, child_b}
use Rattle.rules.specs.Kinds.{expression, place}
use Rattle.rules.specs.Nodes.{operator_of}
use Rattle.rules.specs.Numbers.{operate}
use Rattle.rules.specs.Memory.{live_block}
use Rattle.rules.specs.Layout.{memory_of}
use Rattle.rules.specs.Evaluation.{operated}
use Rattle.rules.specs.Watched.{temporary_of}
use Rattle.rules.specs.Types.{Evaluated}
use Rattle.rules.specs.Trees.{Operator}
use Rattle.std.specs.Prelude.{Err}
use Rattle.evaluation.specs.State.{variables_of}
use Rattle.evaluation_temporaries.specs.Bytes.{temporaries_of}
use Rattle.evaluation.proofs.Arms.{within, read_below, address_below, value_at, literal-arm, read-arm}
use Rattle.evaluation.proofs.Arms.{address-arm, binary, operation-arm}
use Rattle.evaluation.proofs.Arms.{pointer-below, variable-mark, is-temporary, temporary-mark}
use Rattle.evaluation.proofs.Arms.{variable-arm, pointer-arm, temporary-arm}
use Rattle.evaluation.proofs.+evaluation.Goals as goal

pub evaluate-kind-requires : goal.evaluate-kind-requires
evaluate-kind-requires t c = within c.args.table.now c.args.n expression c.requires

pub evaluate-literal-requires : goal.evaluate-literal-requires
evaluate-literal-requires t c = within c.args.table.now c.args.n expression c.requires

pub evaluate-child_a-place-requires : goal.evaluate-child_a-place-requires
evaluate-child_a-place-requires t c = within c.args.table.now c.args.n expression c.requires

pub evaluate-find_place-requires : goal.evaluate-find_place-requires
evaluate-find_place-requires t c =
    let l = read_below c.args.table.now c.args.n c.requires (sym c.kind.ensures ∙ c.in-2.is) in
    rw c.child_a-place.ensures (omega arith, l.2)

pub evaluate-child_a-place-requires-in-3 : goal.evaluate-child_a-place-requires-in-3
evaluate-child_a-place-requires-in-3 t c = within c.args.table.now c.args.n expression c.requires

pub evaluate-find_place-requires-in-3 : goal.evaluate-find_place-requires-in-3
evaluate-find_place-requires-in-3 t c =
    let l = address_below c.args.table.now c.args.n c.requires (sym c.kind.ensures ∙ c.in-3.is) in
    rw c.child_a-place-in-3.ensures (omega arith, l.2)

pub evaluate-child_a-first-requires : goal.evaluate-child_a-first-requires
evaluate-child_a-first-requires t c = within c.args.table.now c.args.n expression c.requires

pub evaluate-evaluate_operand-requires : goal.evaluate-evaluate_operand-requires
evaluate-evaluate_operand-requires t c =
    let a = c.args in
    let τ = temporary_of (temporaries_of a.temporaries.now) in
    let e = c.kind.ensures in
    let l =
    (binary a.table.now τ (variables_of a.variables.now) (memory_of a.mem.now) a.n c.requires
    (λ k. omega arith) (λ k. omega arith) (λ k. omega arith)).a in
    rw c.child_a-first.ensures (omega arith, l.2)

pub evaluate-child_b-second-requires : goal.evaluate-child_b-second-requires
evaluate-child_b-second-requires t c = within c.args.table.now c.args.n expression c.requires

pub evaluate-evaluate_operand-requires-in_default : goal.evaluate-evaluate_operand-requires-in_default
evaluate-evaluate_operand-requires-in_default t c =
    let a = c.args in
    let τ = temporary_of (temporaries_of a.temporaries.now) in
    let e = c.kind.ensures in
    let l =
    (binary a.table.now τ (variables_of a.variables.now) (memory_of a.mem.now) a.n c.requires
    (λ k. omega arith) (λ k. omega arith) (λ k. omega arith)).b in
    rw c.child_b-second.ensures (omega arith, l.2)

pub evaluate-mark-operator-requires : goal.evaluate-mark-operator-requires
evaluate-mark-operator-requires t c = within c.args.table.now c.args.n expression c.requires

pub evaluate-returns-in-1 : goal.evaluate-returns-in-1
evaluate-returns-in-1 t c =
    let a = c.args in
    let f = to_z-of_z {w = w64} {z = c.literal.result} (record { sfits = c.literal.type_inv }) in
    literal-arm a.table.now (temporary_of (temporaries_of a.temporaries.now)) (variables_of a.variables.now)
    (memory_of a.mem.now) a.n c.requires (sym c.kind.ensures ∙ c.in-1.is) (f ∙ c.literal.ensures)

pub evaluate-returns-in-2 : goal.evaluate-returns-in-2
evaluate-returns-in-2 t c =
    let a = c.args in
    read-arm a.table.now (temporary_of (temporaries_of a.temporaries.now)) (variables_of a.variables.now)
    (memory_of a.mem.now) a.n c.requires (sym c.kind.ensures ∙ c.in-2.is) c.child_a-place.ensures c.find_place.ensures
    c.fetch.ensures

pub evaluate-returns-in-3 : goal.evaluate-returns-in-3
evaluate-returns-in-3 t c =
    let a = c.args in
    address-arm a.table.now (temporary_of (temporaries_of a.temporaries.now)) (variables_of a.variables.now)
    (memory_of a.mem.now) a.n c.requires (sym c.kind.ensures ∙ c.in-3.is) c.child_a-place-in-3.ensures
    c.find_place-in-3.ensures c.address.ensures

pub evaluate-returns-in_ok-b-in_default : goal.evaluate-returns-in_ok-b-in_default
evaluate-returns-in_ok-b-in_default t c =
    let a = c.args in
    let τ = temporary_of (temporaries_of a.temporaries.now) in
    let m = memory_of a.mem.now in
    let e = c.kind.ensures in
    let h = binary a.table.now τ (variables_of a.variables.now) m a.n c.requires
    (λ k. omega arith) (λ k. omega arith) (λ k. omega arith) in
    operation-arm a.table.now τ (variables_of a.variables.now) m a.n h
    c.child_a-first.ensures c.evaluate_operand.ensures c.child_b-second.ensures c.evaluate_operand-in_default.ensures
    (c.operate.ensures.2
    ∙ ap (λ (o : Operator). operate (live_block m) o c.in_ok-a-in_default.a c.in_ok-b-in_default.b)
    (c.operate.ensures.1 ∙ ap operator_of c.mark-operator.ensures)
    ∙ sym (ap₂ (operated (live_block m) (operator_of (mark_of a.table.now a.n)))
    c.in_ok-a-in_default.was c.in_ok-b-in_default.was))

pub evaluate-returns-in_err-b-in_default : goal.evaluate-returns-in_err-b-in_default
evaluate-returns-in_err-b-in_default t c =
    let a = c.args in
    let τ = temporary_of (temporaries_of a.temporaries.now) in
    let m = memory_of a.mem.now in
    let e = c.kind.ensures in
    let h = binary a.table.now τ (variables_of a.variables.now) m a.n c.requires
    (λ k. omega arith) (λ k. omega arith) (λ k. omega arith) in
    let stopped : c.from_residual-in_err-b-in_default.result ≡ Err c.in_err-b-in_default.field-0.0 = search rules in
    operation-arm a.table.now τ (variables_of a.variables.now) m a.n h
    c.child_a-first.ensures c.evaluate_operand.ensures c.child_b-second.ensures c.evaluate_operand-in_default.ensures
    (stopped ∙ sym (ap₂ (operated (live_block m) (operator_of (mark_of a.table.now a.n)))
    c.in_ok-a-in_default.was c.in_err-b-in_default.was))

pub evaluate-returns-in_err-a-in_default : goal.evaluate-returns-in_err-a-in_default
evaluate-returns-in_err-a-in_default t c =
    let a = c.args in
    let τ = temporary_of (temporaries_of a.temporaries.now) in
    let ρ = variables_of a.variables.now in
    let m = memory_of a.mem.now in
    let e = c.kind.ensures in
    let h = binary a.table.now τ ρ m a.n c.requires (λ k. omega arith) (λ k. omega arith) (λ k. omega arith) in
    let v = value_at a.table.now τ ρ m (child_b a.table.now a.n) in
    let stopped : c.from_residual.result ≡ Err c.in_err-a-in_default.field-0.0 = search rules in
    operation-arm a.table.now τ ρ m a.n h c.child_a-first.ensures c.evaluate_operand.ensures refl refl
    (stopped
    ∙ sym (ap (λ (u : Evaluated). operated (live_block m) (operator_of (mark_of a.table.now a.n)) u v)
    c.in_err-a-in_default.was))

pub find_place-kind-requires : goal.find_place-kind-requires
find_place-kind-requires t c = within c.args.table.now c.args.n place c.requires

pub find_place-mark-v-requires : goal.find_place-mark-v-requires
find_place-mark-v-requires t c = within c.args.table.now c.args.n place c.requires

pub find_place-bounds-variables-v : goal.find_place-bounds-variables-v
find_place-bounds-variables-v t c =
    rw c.mark-v.ensures (variable-mark c.args.table.now c.args.n c.requires (sym c.kind.ensures ∙ c.in-10.is))

pub find_place-child_a-pointer-requires : goal.find_place-child_a-pointer-requires
find_place-child_a-pointer-requires t c = within c.args.table.now c.args.n place c.requires

pub find_place-evaluate-requires : goal.find_place-evaluate-requires
find_place-evaluate-requires t c =
    let l = pointer-below c.args.table.now c.args.n c.requires (sym c.kind.ensures ∙ c.in-11.is) in
    rw c.child_a-pointer.ensures (omega arith, l.2)

pub find_place-mark-holder-requires : goal.find_place-mark-holder-requires
find_place-mark-holder-requires t c = within c.args.table.now c.args.n place c.requires

pub find_place-read_temporary-requires : goal.find_place-read_temporary-requires
find_place-read_temporary-requires t c =
    let e = c.kind.ensures in
    let k = is-temporary c.args.table.now c.args.n c.requires (λ x. omega arith) (λ x. omega arith) in
    rw c.mark-holder.ensures (temporary-mark c.args.table.now c.args.n c.requires k)

pub find_place-returns-in-10 : goal.find_place-returns-in-10
find_place-returns-in-10 t c =
    let a = c.args in
    variable-arm a.table.now (temporary_of (temporaries_of a.temporaries.now)) (variables_of a.variables.now)
    (memory_of a.mem.now) a.n c.requires (sym c.kind.ensures ∙ c.in-10.is) c.mark-v.ensures

pub find_place-returns-in-11 : goal.find_place-returns-in-11
find_place-returns-in-11 t c =
    let a = c.args in
    pointer-arm a.table.now (temporary_of (temporaries_of a.temporaries.now)) (variables_of a.variables.now)
    (memory_of a.mem.now) a.n c.requires (sym c.kind.ensures ∙ c.in-11.is) c.child_a-pointer.ensures c.evaluate.ensures
    c.point.ensures

pub find_place-returns-in_default : goal.find_place-returns-in_default
find_place-returns-in_default t c =
    let a = c.args in
    let e = c.kind.ensures in
    let k = is-temporary a.table.now a.n c.requires (λ x. omega arith) (λ x. omega arith) in
    temporary-arm a.table.now (temporary_of (temporaries_of a.temporaries.now)) (variables_of a.variables.now)
    (memory_of a.mem.now) a.n c.requires k c.mark-holder.ensures c.read_temporary.ensures c.point-in_default.ensures
