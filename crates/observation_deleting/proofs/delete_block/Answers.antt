use Rattle.std.proofs.Common.{sym}
use Rattle.rules.proofs.Memory.MarkOwners.{owned-is, delete-owned}
use Rattle.observation_deleting.proofs.delete_block.Goals as goal

pub returns-clause-owners : goal.returns-clause-owners
returns-clause-owners c =
    owned-is c.remove_block.ensures.view c.give_back.ensures.owners
    (delete-owned c.requires c.in_ok-p.p.name _ _ c.give_back.ensures.marks (sym c.in-Live.ensures))
