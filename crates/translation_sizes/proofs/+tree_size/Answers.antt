-- The record's size is made of those of its children, which leave it room.
use Rattle.std.proofs.Common.{◌∙◌, arith}
use Rattle.translation_sizes.proofs.SizeSteps.{size_a, size_b, size_c, size_sum}
use Rattle.translation_sizes.proofs.+tree_size.Goals as goal

pub tree_size-a-requires : goal.tree_size-a-requires
tree_size-a-requires t c =
    let r = size_a c.args.table.now c.args.n c.requires.0 c.if-n-eq0.false c.requires.1 c.child_a.result c.child_a.ensures in
    (omega arith, r.1)

pub tree_size-b-requires : goal.tree_size-b-requires
tree_size-b-requires t c =
    let r = size_b c.args.table.now c.args.n c.requires.0 c.if-n-eq0.false c.requires.1 c.child_b.result c.child_b.ensures in
    (omega arith, r.1)

pub tree_size-c-requires : goal.tree_size-c-requires
tree_size-c-requires t c =
    let r = size_c c.args.table.now c.args.n c.requires.0 c.if-n-eq0.false c.requires.1 c.child_c.result c.child_c.ensures in
    (omega arith, r.1)

pub total-requires : goal.total-requires
total-requires t c =
    let sum = size_sum c.args.table.now c.args.n c.requires.0 c.if-n-eq0.false c.requires.1 c.kind.ensures c.child_a.ensures
    c.child_b.ensures c.child_c.ensures c.tree_size-a.ensures c.tree_size-b.ensures c.tree_size-c.ensures in
    let small = c.requires.1 in
    omega arith

pub returns : goal.returns
returns t c =
    c.total.ensures
    ∙ size_sum c.args.table.now c.args.n c.requires.0 c.if-n-eq0.false c.requires.1 c.kind.ensures c.child_a.ensures
    c.child_b.ensures c.child_c.ensures c.tree_size-a.ensures c.tree_size-b.ensures c.tree_size-c.ensures
