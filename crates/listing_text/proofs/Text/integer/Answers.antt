-- A negative number's sign, then its magnitude.
use Rattle.std.proofs.Common.{refl, [], ◌∷◌, sym}
use mir.Facts.{to_z-of_z}
use Rattle.listing_text.proofs.DigitLaws.{integer-negative, integer-other}
use Rattle.listing_text.proofs.WriteLaws.{room_as, room-first, room-second, written_as, written_then}
use Rattle.listing_text.proofs.Text.integer.Goals as goal
use Rattle.listing_text.proofs.Text.integer.Goals.{then-z-lt0, else-z-lt0}

pub push-requires : goal.push-requires
push-requires c =
    let f = to_z-of_z c.ranges.z in
    let text = integer-negative c.args.z _ (rw f at c.if-z-lt0.true) refl in
    room-first c.args.self.now (45 ∷ []) _ (room_as c.args.self.now text c.requires)

pub natural-requires : goal.natural-requires
natural-requires c =
    let f = to_z-of_z c.ranges.z in
    let e = rw f at c.magnitude.ensures in
    elim c.if-z-lt0.branch [
      | then-z-lt0 w ↦
          let text = integer-negative c.args.z c.magnitude.result (rw f at w.if-z-lt0.true) e in
          rw w.self-is (room-second _ (room_as c.args.self.now text c.requires) w.push.ensures)
      | else-z-lt0 w ↦
          rw w.self-is (room_as c.args.self.now (integer-other c.args.z _ (rw f at w.if-z-lt0.false) e) c.requires)
    ]

pub returns : goal.returns
returns c =
    let f = to_z-of_z c.ranges.z in
    let e = rw f at c.magnitude.ensures in
    elim c.if-z-lt0.branch [
      | then-z-lt0 w ↦
          let text = integer-negative c.args.z c.magnitude.result (rw f at w.if-z-lt0.true) e in
          written_as (sym text)
          (written_then (room_as c.args.self.now text c.requires) w.push.ensures (rw w.self-is at c.natural.ensures))
      | else-z-lt0 w ↦
          written_as (sym (integer-other c.args.z _ (rw f at w.if-z-lt0.false) e)) (rw w.self-is at c.natural.ensures)
    ]
