use Rattle.std.proofs.Common.{◌∙◌, arith}
use Rattle.rules.proofs.Lists.RunLaws.{run-start, run-over, run_none}
use Rattle.block_places.proofs.Runs.{run-free}
use Rattle.block_places.proofs.find_run.Goals as goal

pub returns-in_err-last : goal.returns-in_err-last
returns-in_err-last g c =
    let p = g.P.Places.free c.args.places.now in
    let a = c.args in
    c.from_residual.ensures
    ∙ run_none p a.n a.from (run-start p a.n a.from c.requires.0 c.requires.3) (omega arith)

pub loop-start-init : goal.loop-start-init
loop-start-init g c =
    run-start (g.P.Places.free c.args.places.now) c.args.n c.args.from c.requires.0 c.requires.3

pub returns-in-None : goal.returns-in-None
returns-in-None g c =
    run-free (g.P.Places.free c.args.places.now) c.args.n c.loop-start.start c.loop-start.invariant (omega arith)
    c.in-None.ensures

pub loop-start-preserved : goal.loop-start-preserved
loop-start-preserved g c =
    let held = c.in-Some.ensures in
    run-over (g.P.Places.free c.args.places.now) c.args.n c.loop-start.start c.loop-start.invariant c.in-Some.held held.0
    held.1 c.end_of-start.ensures

pub returns : goal.returns
returns g c =
    run_none (g.P.Places.free c.args.places.now) c.args.n c.loop-start.start c.loop-start.invariant (omega arith)
