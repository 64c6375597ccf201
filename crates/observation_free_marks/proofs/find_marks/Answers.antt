use Rattle.std.proofs.Common.{◌∙◌}
use Rattle.rules.proofs.Memory.MarkOwners.{owners-run}
use Rattle.observation_free_marks.proofs.find_marks.Goals as goal

pub find_run-requires : goal.find_run-requires
find_run-requires c =
    let owned = c.requires.1 in
    (c.requires.0, owned, owned.within, owned.lowest)

pub returns : goal.returns
returns c = c.find_run.ensures ∙ owners-run c.requires.1 c.args.n
