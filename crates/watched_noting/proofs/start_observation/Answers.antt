-- What is cleared has no owners, and what both blocks' records leave is the start's image.
use Rattle.std.proofs.Common.{rules}
use Rattle.rules.proofs.Memory.MarkOwners.{owned-is, empty-owned}
use Rattle.watched_noting.proofs.StartLaws.{cleared-empty, start-image}
use Rattle.watched_noting.proofs.start_observation.Goals as goal

pub record_marked-requires : goal.record_marked-requires
record_marked-requires c = (search rules, owned-is (cleared-empty c.clear.ensures) c.requires.1 empty-owned)

pub returns-clause-observation : goal.returns-clause-observation
returns-clause-observation c =
    start-image c.args.count c.clear.ensures c.record_marked.ensures.observation c.record_marked-2.ensures.observation
