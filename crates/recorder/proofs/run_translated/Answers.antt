use Rattle.recorder.specs.BothRuns.{lent}
use Rattle.recorder.proofs.BothLaws.{ran-both}
use Rattle.recorder.proofs.run_translated.Goals as goal

pub returns : goal.returns
returns c =
    let a = c.args in
    let m = c.recorder_translate-translated in
    let r = c.run_pair in
    ran-both a.table.now a.inputs.now a.fuel (lent a.out.now a.memory.now a.second.now a.observation.now)
    c.requires m.result m.new.out m.ensures.answer m.ensures.output c.if-translated-ne0.false r.result
    r.new.memory r.new.second r.new.observation r.ensures.answers r.ensures.memory r.ensures.second
    r.ensures.observation
