-- Marking cells leaves the marks' owners as they were.
use Rattle.std.proofs.Common.{refl}
use Rattle.rules.proofs.Memory.MarkOwners.{owned-is, mark_all-owned}
use Rattle.watched_noting.proofs.record_marked.Goals as goal

pub returns-clause-owners : goal.returns-clause-owners
returns-clause-owners c =
    owned-is c.mark_cells.ensures.view refl (mark_all-owned c.store_block.ensures.owners _ _)
