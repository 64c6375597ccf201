-- A refusal's line has room where the longest listing has.
use Rattle.std.proofs.Common.{arith}
use Rattle.rules.specs.Types.{rule_number}
use Rattle.listing_text.proofs.LongestText.{length-refusal}
use Rattle.listing_text.proofs.Text.listing.Goals as goal

pub refusal-requires : goal.refusal-requires
refusal-requires c =
    let r = c.in-Err.refusal in
    omega (arith, length-refusal (rule_number r.rule) r.«record»)
