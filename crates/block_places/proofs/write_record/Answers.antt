use Rattle.std.proofs.Common.{◌∙◌, ap}
use Rattle.rules.specs.Words.{put}
use Rattle.rules.proofs.Lists.RecordLaws.{record-digits}
use Rattle.block_places.proofs.write_record.Goals as goal

pub returns : goal.returns
returns c =
    let a = c.args in
    let r = c.ranges in
    c.write_word.ensures
    ∙ ap (put a.memory.now a.at) (record-digits a.state a.first a.n r.state.fits r.first.fits r.n.fits)
