use Rattle.std.proofs.Common.{◌≡◌, length, rules}
use mir.Facts.{to_z-of_z}
use Rattle.evaluation_temporaries.specs.Bytes.{temporaries_length}
use Rattle.evaluation_temporaries.proofs.Writing.{temporary-written}
use Rattle.evaluation_temporaries.proofs.write_temporary.Goals as goal

pub returns : goal.returns
returns c =
    let a = c.args in
    let r = c.ranges in
    let e : length a.temporaries.now ≡ temporaries_length = search rules in
    temporary-written a.temporaries.now a.n a.kind a.name a.z e c.requires r.kind.fits r.name.fits r.z
    c.write_word.ensures (rw (to_z-of_z r.z) at c.write_i64.ensures)
