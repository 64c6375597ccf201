-- A record that is found stands in the table.
use Rattle.rules.specs.Kinds.{Language, source}
use Rattle.std.proofs.Common.{subst}
use Rattle.checker.specs.Scopes.{Kept}
use Rattle.rules.specs.Checker.{level_fault}
use Rattle.checker.proofs.OrderLaws.{found-fits}
use Rattle.checker.proofs.answers.check_levels.Goals as goal

pub refuse_at-requires : goal.refuse_at-requires
refuse_at-requires c =
    let t = c.args.table.now in
    let kept : Kept source t = subst (λ (l : Language). Kept l t) c.in-Source.is c.requires in
    found-fits source t (level_fault t) c.lowest_too_deep.result kept.formed.sized c.lowest_too_deep.ensures
