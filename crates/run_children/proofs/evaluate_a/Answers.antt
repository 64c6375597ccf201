-- An expression's child is a record.
use Rattle.rules.specs.Kinds.{expression}
use Rattle.evaluation.proofs.Arms.{within}
use Rattle.run_children.proofs.evaluate_a.Goals as goal

pub kind-requires : goal.kind-requires
kind-requires c = rw c.child_a-first.ensures (within c.args.table.now _ expression c.requires.1)
