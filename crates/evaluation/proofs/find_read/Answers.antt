use Rattle.std.proofs.Common.{refl}
use Rattle.rules.specs.Kinds.{expression}
use Rattle.rules.specs.Layout.{memory_of}
use Rattle.rules.specs.Watched.{temporary_of}
use Rattle.evaluation_temporaries.specs.Bytes.{temporaries_of}
use Rattle.evaluation.specs.State.{variables_of}
use Rattle.evaluation.proofs.Arms.{within, read_below, read-arm}
use Rattle.evaluation.proofs.find_read.Goals as goal

pub child_a-wanted-requires : goal.child_a-wanted-requires
child_a-wanted-requires c = within c.args.table.now c.args.n expression c.requires.0

pub find_place-requires : goal.find_place-requires
find_place-requires c =
    rw c.child_a-wanted.ensures (read_below c.args.table.now c.args.n c.requires.0 c.requires.1).2

pub returns : goal.returns
returns c =
    let a = c.args in
    read-arm a.table.now (temporary_of (temporaries_of a.temporaries.now)) (variables_of a.variables.now)
    (memory_of a.mem.now) a.n c.requires.0 c.requires.1 c.child_a-wanted.ensures c.find_place.ensures refl
