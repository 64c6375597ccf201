-- The array of zeros holds the translation, whose lines fit.
use Rattle.std.proofs.Common.{ℕ, ◌≤◌, length, sym, arith}
use lib.ListN.{replicate, length-replicate}
use Rattle.listing_text.proofs.WriteLaws.{room_as, written_as}
use Rattle.listing_text.proofs.TranslationLaws.{lines_fit, lines-back, never-refused}
use Rattle.listing_text.proofs.Text.translation.Goals as goal

zeros-enough : 57344 ≤ length {A = ℕ} (replicate 57344 0)
zeros-enough = omega (arith, length-replicate {A = ℕ} 57344 0)

pub records-requires : goal.records-requires
records-requires c =
    let w = c.in-Ok in
    let t = c.args.table.now in
    let same = lines-back t c.requires.0 (replicate 57344 0) zeros-enough _ w.count w.ensures.answer w.ensures.bytes in
    room_as c.args.self.now (sym same) (omega (arith, lines_fit t c.requires.0, c.requires.1))

pub returns-in-Ok : goal.returns-in-Ok
returns-in-Ok c =
    let w = c.in-Ok in
    let t = c.args.table.now in
    let same = lines-back t c.requires.0 (replicate 57344 0) zeros-enough _ w.count w.ensures.answer w.ensures.bytes in
    written_as same c.records.ensures

pub returns-in_default : goal.returns-in_default
returns-in_default c =
    let w = c.in_default in
    absurd (never-refused c.args.table.now c.requires.0 (replicate 57344 0) zeros-enough w.field-0 w.ensures.answer)
