-- What the operator gives where the blocks that it asks about are live, and 47 where one is not.
use Rattle.std.proofs.Common.{sym, ap, ◌∙◌}
use Rattle.rules.specs.declared.{Value.Value}
use Rattle.rules.specs.Trees.{Operator}
use Rattle.rules.specs.Numbers.{operate}
use Rattle.rules_endings.specs.ComparedBlocks.{every_live}
use Rattle.value_operators.proofs.Asking.{asked}
use Rattle.value_operators.proofs.ask_first.Goals as goal

pub returns-then-are_live : goal.returns-then-are_live
unfolding operate
returns-then-are_live g c =
    let a = c.args in
    let f = c.find_compared.ensures in
    let given = c.operate.ensures in
    given.2
    ∙ ap (λ (o : Operator). operate every_live o (Value.Pointer a.p) (Value.Pointer a.q)) given.1
    ∙ sym (rw c.if-are_live.true at
    (asked (g.M.Liveness.live a.memory.now) a.operator (Value.Pointer a.p) (Value.Pointer a.q) f.1 f.2
    c.are_live.ensures))

pub returns-else-are_live : goal.returns-else-are_live
unfolding operate
returns-else-are_live g c =
    let a = c.args in
    let f = c.find_compared.ensures in
    sym (rw c.if-are_live.false at
    (asked (g.M.Liveness.live a.memory.now) a.operator (Value.Pointer a.p) (Value.Pointer a.q) f.1 f.2
    c.are_live.ensures))
