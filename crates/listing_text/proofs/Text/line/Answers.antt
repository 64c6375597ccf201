-- The three parts behind one another are the line.
use Rattle.std.proofs.Common.{refl, rules, [], ◌∷◌}
use mir.Syntax.{w64}
use mir.Facts.{to_z-of_z}
use Rattle.rules.specs.Listing.{integer}
use Rattle.listing_text.proofs.WriteLaws.{room-first, room-second, written_as, written_then, third-room, all-written}
use Rattle.listing_text.proofs.WriteLaws.{line-row, three-same}
use Rattle.listing_text.proofs.Text.line.Goals as goal

pub integer-requires : goal.integer-requires
integer-requires c =
    let r = c.args.«record» in
    let head = written_as (three-same refl c.from.ensures c.from-2.ensures) c.three.ensures in
    rw (to_z-of_z {w = w64} {z = r.literal} (search rules))
    (room-first c.three-2.new.self (integer r.literal) (10 ∷ []) (third-room (line-row c.args.self.now c.args.n r c.requires) head c.three-2.ensures))

pub push-requires : goal.push-requires
push-requires c =
    let r = c.args.«record» in
    let head = written_as (three-same refl c.from.ensures c.from-2.ensures) c.three.ensures in
    let number = rw (to_z-of_z {w = w64} {z = r.literal} (search rules)) at c.integer.ensures in
    room-second (10 ∷ []) (third-room (line-row c.args.self.now c.args.n r c.requires) head c.three-2.ensures) number

pub returns : goal.returns
returns c =
    let r = c.args.«record» in
    let row = line-row c.args.self.now c.args.n r c.requires in
    let head = written_as (three-same refl c.from.ensures c.from-2.ensures) c.three.ensures in
    let number = rw (to_z-of_z {w = w64} {z = r.literal} (search rules)) at c.integer.ensures in
    all-written row head c.three-2.ensures (written_then (third-room row head c.three-2.ensures) number c.push.ensures)
