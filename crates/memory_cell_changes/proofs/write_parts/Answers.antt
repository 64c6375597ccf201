use Rattle.std.proofs.Common.{◌≡◌, ◌+◌, ◌≤◌, ◌∙◌, length, arith, rules}
use mir.Facts.{to_z-of_z}
use Rattle.rules.specs.Sizes.{memory_length}
use Rattle.rules.specs.Layout.{cell_place}
use Rattle.memory_cell_changes.proofs.Parts.{parts-put}
use Rattle.memory_cell_changes.proofs.write_parts.Goals as goal

pub returns : goal.returns
returns c =
    let a = c.args in
    let e : length a.mem.now ≡ memory_length = search rules in
    let room : cell_place a.i + 16 ≤ length a.mem.now = omega (arith, c.requires) in
    (rw (to_z-of_z c.ranges.z, c.write_record.ensures) at c.write_i64.ensures)
    ∙ parts-put a.mem.now (cell_place a.i) a.kind a.owner a.name a.z room
