-- Filled with 0, the bytes are the empty observation memory's.
use Rattle.std.proofs.Common.{ℕ, sym, ap, ◌∙◌, arith}
use lib.ListN.{replicate}
use Rattle.rules.specs.Sizes.{observation_length}
use Rattle.rules.proofs.Lists.FillLaws.{fill-all}
use Rattle.observation_records.proofs.ObservationLaws.{empty-image}
use Rattle.observation.proofs.clear.Goals as goal

pub returns : goal.returns
returns c =
    c.fill_bytes.ensures ∙ fill-all 0 _ observation_length (omega arith) ∙ ap (λ (n : ℕ). replicate n 0) c.told-obs
    ∙ sym empty-image
