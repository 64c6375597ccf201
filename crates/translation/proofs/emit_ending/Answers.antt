-- Two parts and the sequence over them.
use Rattle.translation_emission.proofs.Emitting.{some}
use Rattle.translation_emission.proofs.Parts.{emitted-sequence}
use Rattle.translation.proofs.emit_ending.Goals as goal

pub returns : goal.returns
returns c =
    emitted-sequence c.args.s some some c.emit_address.ensures c.leaf.ensures c.requires.fact_2 c.sequence.ensures
