use Rattle.std.proofs.Common.{arith, w64, pos}
use mir.Val.{SFits}
use mir.Facts.{to_z-of_z}
use Rattle.rules.specs.Layout.{observation_of}
use Rattle.watched_noting.proofs.StartLaws.{mark-none, mark-more}
use Rattle.watched_noting.proofs.mark_cells.Goals as goal

pub loop-i-init : goal.loop-i-init
loop-i-init c = mark-none c.args.obs.now _

pub loop-i-preserved : goal.loop-i-preserved
loop-i-preserved c =
    let l = c.loop-i in
    let f : SFits w64 (pos l.i) = record { sfits = omega arith } in
    mark-more (observation_of c.args.obs.now) c.args.name l.i l.invariant
    (rw (to_z-of_z f) at c.initialise.ensures.memory)
