-- Number, record and newline behind one another are the line.
use Rattle.std.proofs.Common.{ap, ◌∙◌, [], ◌∷◌}
use Rattle.rules.specs.Types.{rule_number}
use Rattle.rules.specs.Listing.{natural}
use Rattle.listing_text.specs.Text.{spaced, refusal_line}
use Rattle.listing_text.proofs.WriteLaws.{Row, all-written, refusal-text, written_as, spaced-same}
use Rattle.listing_text.proofs.Text.refusal.Goals as goal

pub returns : goal.returns
returns c =
    let k = rule_number c.args.refusal.rule in
    let n = c.args.refusal.«record» in
    let row : Row c.args.self.now (refusal_line k n) (spaced (natural k)) (natural n) (10 ∷ []) =
    record { parts = refusal-text k n; room = c.requires } in
    all-written row (written_as (spaced-same (c.from-2.ensures ∙ c.from.ensures)) c.spaced.ensures)
    (written_as (ap natural c.from-3.ensures) c.natural.ensures) c.push.ensures
