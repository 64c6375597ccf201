-- The listing of what is kept is the whole input's.
use Rattle.std.proofs.Common.{take, ap, ◌∙◌}
use Rattle.listing_text.specs.Text.{Listed}
use Rattle.listing_text.proofs.ListedLaws.{listed_same}
use Rattle.listing_input.proofs.InputLaws.{kept-listing}
use Rattle.listing_input.proofs.write_kept.Goals as goal

pub returns-clause-listing : goal.returns-clause-listing
returns-clause-listing c = λ whole k.
    let a = c.args in
    let e = c.write_listing.ensures in
    let same = listed_same (take a.count a.kept.now) whole a.out.now
    (kept-listing whole a.kept.now a.count c.requires.1 k) in
    (e.length ∙ ap (λ (x : Listed). x.length) same, e.text ∙ ap (λ (x : Listed). x.out) same)
