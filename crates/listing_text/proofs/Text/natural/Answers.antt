-- The library writes the number's digits.
use Rattle.std.proofs.Common.{sym, ◌∙◌}
use Rattle.listing_text.proofs.DigitLaws.{natural-printed}
use Rattle.listing_text.proofs.WriteLaws.{room_as, written_as}
use Rattle.listing_text.proofs.Text.natural.Goals as goal

pub push-requires : goal.push-requires
push-requires c =
    room_as c.args.self.now (natural-printed c.args.n c.ranges.n (c.as_bytes.ensures.value ∙ c.format.ensures.text)) c.requires

pub returns : goal.returns
returns c =
    let e = natural-printed c.args.n c.ranges.n (c.as_bytes.ensures.value ∙ c.format.ensures.text) in
    written_as (sym e) c.push.ensures
