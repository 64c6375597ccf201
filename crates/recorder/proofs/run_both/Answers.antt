use Rattle.std.proofs.Common.{sym, ap, ◌∙◌}
use Rattle.rules.specs.Kinds.{source}
use Rattle.rules.specs.declared.{Answer.Answer}
use Rattle.rules.proofs.Acceptance.CheckLaws.{zero-accepts}
use Rattle.recorder.proofs.run_both.Goals as goal

pub run_accepted-requires : goal.run_accepted-requires
run_accepted-requires c =
    zero-accepts source _
    (sym (ap (λ (a : Answer). a.number) c.recorder_check_source-checked.ensures) ∙ c.if-checked-ne0.false)
