use Rattle.std.proofs.Common.{sym, ◌∙◌, rules}
use Rattle.rules.proofs.Lists.FillLaws.{fill_one}
use Rattle.observation_blocks.proofs.BecomesLaws.{becomes-cleared}
use Rattle.observation_blocks.proofs.clear_marks.Goals as goal

pub returns-then-n-eq1 : goal.returns-then-n-eq1
returns-then-n-eq1 c =
    becomes-cleared c.args.first c.args.n (search rules)
    (rw c.if-n-eq1.true (c.put_byte.ensures ∙ sym (fill_one 0 _ _)))

pub returns-else-n-eq1 : goal.returns-else-n-eq1
returns-else-n-eq1 c = becomes-cleared c.args.first c.args.n (search rules) c.fill_bytes.ensures
