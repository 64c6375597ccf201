-- Kind, mark, children and literal, put in turn, make the record's bytes.
use Rattle.std.proofs.Common.{refl, rules}
use mir.Syntax.{w64}
use mir.Facts.{to_z-of_z}
use Rattle.translation_emission.proofs.Puts.{put_record}
use Rattle.translation_emission.proofs.write_record.Goals as goal

pub returns : goal.returns
returns c =
    let a = c.args in
    put_record a.bytes.now _ _ c.write_children.new.bytes c.write_i64.new.d a.place a.«record» c.requires refl refl
    c.write_children.ensures (rw (to_z-of_z {w = w64} {z = a.«record».literal} (search rules)) at c.write_i64.ensures)
