-- Three texts behind one another make one.
use Rattle.std.proofs.Common.{refl}
use Rattle.rules.specs.Listing.{natural}
use Rattle.listing_text.specs.Text.{spaced, three}
use Rattle.listing_text.proofs.WriteLaws.{Row, all-written}
use Rattle.listing_text.proofs.Text.three.Goals as goal

pub returns : goal.returns
returns c =
    let a = c.args in
    let row : Row a.self.now (three a.x a.y a.z) (spaced (natural a.x)) (spaced (natural a.y)) (spaced (natural a.z)) =
    record { parts = refl; room = c.requires } in
    all-written row c.spaced.ensures c.spaced-2.ensures c.spaced-3.ensures
