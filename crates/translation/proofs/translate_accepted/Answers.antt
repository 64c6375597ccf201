-- An accepted table's last record is a statement whose tree is the translation.
use Rattle.std.proofs.Common.{refl, arith}
use Rattle.std.proofs.lemmas.Grind.{common_steps}
use Rattle.translation.proofs.Accepting.{accepted-sorted, accepted-size, accepted-statement, too_short, long-enough}
use Rattle.translation.proofs.translate_accepted.Goals as goal

pub tree_size-requires : goal.tree_size-requires
tree_size-requires c =
    let t = c.args.table.now in (accepted-sorted t c.requires, accepted-size t c.requires)

pub overflow_mul-tree_size : goal.overflow_mul-tree_size
overflow_mul-tree_size c =
    let small = accepted-size c.args.table.now c.requires in
    let e = c.tree_size.ensures in
    record { fits = omega arith }

pub returns-then-out-tree_size : goal.returns-then-out-tree_size
returns-then-out-tree_size c =
    let e = c.tree_size.ensures in
    let r = too_short c.args.table.now c.requires c.args.out.now (omega (arith, c.if-out-tree_size.true)) in
    record { answer = r.0; bytes = r.1 }

pub emit_statement-requires : goal.emit_statement-requires
emit_statement-requires c =
    let e = c.tree_size.ensures in
    let f = c.if-out-tree_size.false in
    (accepted-statement c.args.table.now c.requires, omega arith)

pub overflow_cast-result : goal.overflow_cast-result
overflow_cast-result c =
    let small = accepted-size c.args.table.now c.requires in
    let e = c.emit_statement.ensures.count in
    record { fits = omega arith }

pub returns : goal.returns
returns c =
    let t = c.args.table.now in
    let e = c.tree_size.ensures in
    let f = c.if-out-tree_size.false in
    let r = long-enough t c.requires _ _ refl (omega arith) c.emit_statement.ensures in
    record { answer = r.0; bytes = let s = c.emit_statement.ensures.same in grind (arith, common_steps, r.1, s) }
